-- What is kept of a replay, once it was judged.
use Rattle.std.proofs.Common.{◌≡◌, ℕ, zero, suc, ◌-◌, ◌<◌, ◌≤◌, Bool, true, false, List, [], ◌∷◌, ◌++◌, length, take, get_or, Contains, Option, Some, slice_get, if◌then◌else◌, refl, sym, ap, subst, ◌∙◌, arith}
use Rattle.std.proofs.lemmas.List.{take_all, take-append-le}
use Rattle.std.proofs.lemmas.List.FromFn.{length-map-range_with_len}
use Rattle.std.proofs.lemmas.Option.{slice_get-get_or}
use Rattle.m17_values.specs.declared.heard.Heard.{Heard}
use Rattle.m17_values.specs.declared.heard.Heard.TheVariants as fault
use Rattle.m17_values.specs.declared.peer.Peer.{Peer}
use Rattle.m17_floor.specs.declared.verdict.Verdict.{Verdict}
use Rattle.m17_directory.specs.declared.verdict.LinkVerdict.{LinkVerdict}
use Rattle.m17_directory.specs.Entries.{Entry, notice_at, peers_named, SaysEach}
use Rattle.m17_directory.specs.Laws.{EndsOnce}
use Rattle.m17_directory.specs.Routed.{link_verdict}
use Rattle.m17_port_memory.specs.Kept.{TalliesKept}
use Rattle.m17_port_memory.specs.Peers.{named_in}
use Rattle.m17_plan.specs.declared.plan.Plan.{Plan}
use Rattle.m17_house.specs.Free.{IsFreelyReplayed}
use Rattle.m17_house.specs.Replay.{packet_verdict}
use Rattle.m17_plan.specs.Planned.{setup_of}
use Rattle.m17_replay.specs.declared.judging.Replayed.{Replayed}
use Rattle.m17_replay.specs.Replay.{is_lost}
use Rattle.m17_replay.specs.Run.{is_fault_heard, AreNamed, CanPrint, IsJudged}
use Rattle.m17_replay.proofs.HeardLemmas.{length_says, says_at, says_fault}

-- so many of these are heard, up to the first that ends the link
abbrev pub IsToEnd : List Heard → ℕ → Type 0
IsToEnd heard len =
    (entries : List Entry) (front rest : List Heard) → heard ≡ front ++ rest → SaysEach front entries → EndsOnce entries → len ≡ length entries

-- what was heard up to the end of the link
pub front_of : (heard front rest : List Heard) (entries : List Entry) (len : ℕ) → heard ≡ front ++ rest → SaysEach front entries → len ≡ length entries → take len heard ≡ front
front_of heard front rest entries len parts says is =
    let count = length_says front entries says in
    ap (take len) parts
    ∙ take-append-le len front rest (omega (arith, is, count))
    ∙ take_all len front (omega (arith, is, count))

module _ (plan : Plan) (heard : List Heard) (len : ℕ) (to_end : IsToEnd heard len) (verdicts : List LinkVerdict) (packets : List (Option Verdict)) (mouth : TalliesKept) (is : IsFreelyReplayed plan heard verdicts packets mouth) where
  len_is : len ≡ length is.entries
  len_is = to_end is.entries is.replay.front is.replay.rest is.replay.heard_is is.replay.says is.replay.ends

  -- a verdict for each entry
  verdicts_count : length verdicts ≡ length is.entries
  verdicts_count = ap length is.each ∙ length-map-range_with_len (link_verdict (setup_of plan) is.entries) 0 (length is.entries)

  packets_count : length packets ≡ length is.entries
  packets_count = ap length is.each_packet ∙ length-map-range_with_len (packet_verdict plan is.entries) 0 (length is.entries)

  front_count : length is.replay.front ≡ length is.entries
  front_count = length_says is.replay.front is.entries is.replay.says

  front_is : take len heard ≡ is.replay.front
  front_is = front_of heard is.replay.front is.replay.rest is.entries len is.replay.heard_is is.replay.says len_is

  -- whether the link was lost
  lost_is : (lost : Bool) → ((h : Heard) → slice_get (take len heard) (length (take len heard) - 1) ≡ Some h → lost ≡ is_fault_heard h) → is_lost is.entries ≡ lost
  lost_is lost tells =
      let told : (h : Heard) → slice_get is.replay.front (length is.replay.front - 1) ≡ Some h → lost ≡ is_fault_heard h =
      subst (λ (front : List Heard). (h : Heard) → slice_get front (length front - 1) ≡ Some h → lost ≡ is_fault_heard h) front_is tells in
      let inside : length is.entries - 1 < length is.replay.front = omega (arith, front_count, is.replay.ends.is_last) in
      let last = get_or is.replay.front (length is.entries - 1) fault.Fault in
      let at : slice_get is.replay.front (length is.entries - 1) ≡ Some last = slice_get-get_or is.replay.front (length is.entries - 1) fault.Fault inside in
      let same : length is.replay.front - 1 ≡ length is.entries - 1 = ap (λ n. n - 1) front_count in
      says_fault last (notice_at is.entries (length is.entries - 1)) (says_at is.replay.front is.entries (length is.entries - 1) last is.replay.says at)
      ∙ sym (told last (ap (slice_get is.replay.front) same ∙ at))

pub named_so : (summary : Bool) (named peers : List Peer) → named ≡ (if summary then peers else []) → summary ≡ true → named ≡ peers
named_so true named peers names so = names
named_so false named peers names so = cc

-- how many entries were heard before the end
count_is : (len len' count : ℕ) (lost lost' : Bool) → len ≡ len' → lost' ≡ lost → count ≡ (if lost then len else len - 1) → count ≡ (if lost' then len' else len' - 1)
count_is len len' count lost lost' e f is = subst (λ (b : Bool). count ≡ (if b then len' else len' - 1)) (sym f) (subst (λ (n : ℕ). count ≡ (if lost then n else n - 1)) e is)

count_within : (len count : ℕ) (lost : Bool) → count ≡ (if lost then len else len - 1) → count ≤ len
count_within len count true is = omega arith
count_within len count false is = omega arith

-- so it is kept
pub judged : (plan : Plan) (summary : Bool) (heard : List Heard) (replayed : Replayed) (len size : ℕ) → IsToEnd heard len → size ≡ len
    → IsFreelyReplayed plan heard replayed.outcomes.verdicts replayed.outcomes.packets replayed.mouth
    → ((entries : List Entry) (front rest : List Heard) → heard ≡ front ++ rest → SaysEach front entries → EndsOnce entries → replayed.named.items ≡ (if summary then peers_named entries (length entries) else []))
    → ((h : Heard) → slice_get (take len heard) (length (take len heard) - 1) ≡ Some h → replayed.lost ≡ is_fault_heard h)
    → replayed.count ≡ (if replayed.lost then size else size - 1)
    → IsJudged plan summary heard replayed
judged plan summary heard replayed len size to_end same is names tells count =
    let lost = lost_is plan heard len to_end _ _ _ is replayed.lost tells in
    let names_are = names is.entries is.replay.front is.replay.rest is.replay.heard_is is.replay.says is.replay.ends in
    record {
      entries = is.entries;
      is_replay = is.replay;
      is_lost_so = lost;
      stands = record {
        verdicts = record { each = is.each; each_packet = is.each_packet };
        count_is = count_is size (length is.entries) replayed.count replayed.lost (is_lost is.entries) (same ∙ len_is plan heard len to_end _ _ _ is) lost count;
        tallies = is.tallies;
        named_are = named_so summary replayed.named.items (peers_named is.entries (length is.entries)) names_are;
      };
    }

pub can_print : (plan : Plan) (heard : List Heard) (replayed : Replayed) (first : TalliesKept) (len size : ℕ) → IsToEnd heard len → size ≡ len
    → IsFreelyReplayed plan heard replayed.outcomes.verdicts replayed.outcomes.packets replayed.mouth
    → replayed.count ≡ (if replayed.lost then size else size - 1)
    → AreNamed replayed.named.items first → named_in replayed.mouth.entries ≡ named_in first.entries
    → CanPrint replayed
can_print plan heard replayed first len size to_end same is count named peers =
    let within = count_within size replayed.count replayed.lost count in
    let many = len_is plan heard len to_end _ _ _ is in
    record {
      verdicts_reach = omega (arith, within, same, many, verdicts_count plan heard len to_end _ _ _ is);
      packets_reach = omega (arith, within, same, many, packets_count plan heard len to_end _ _ _ is);
      all_named = λ x has. subst (λ (all : List Peer). Contains all x) (sym peers) (named x has);
    }

-- so many of a list that has them
pub taken : (n : ℕ) (xs : List Heard) → n ≤ length xs → n ≡ length (take n xs)
taken zero [] fits = refl
taken zero (x ∷ xs) fits = refl
taken (suc n) [] fits = absurd (omega arith)
taken (suc n) (x ∷ xs) fits = omega (arith, taken n xs (omega arith))
