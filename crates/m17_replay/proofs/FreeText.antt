-- An input has one text, whichever free places are given.
use Rattle.std.proofs.Common.{◌≡◌, ℕ, zero, suc, ◌+◌, ◌-◌, ◌<◌, ◌≤◌, Bool, true, false, cond, List, [], ◌∷◌, ◌++◌, length, map, slice_get, codes, Option, None, Some, option_map, refl, ap, sym, subst, ◌∙◌, arith}
use Rattle.std.specs.List.{flat_map, range_with_len}
use Rattle.std.proofs.lemmas.List.{length-map}
use Rattle.std.proofs.lemmas.List.Sums.{sum_by-cons}
use Rattle.std.proofs.lemmas.Option.{slice_get-map}
use Rattle.m17_lists.proofs.Ranges.{same_at_each_number}
use Rattle.m17_values.specs.declared.heard.Heard.{Heard}
use Rattle.m17_values.specs.declared.peer.Peer.{Peer}
use Rattle.m17_book.specs.Laws.{TracesAreExact}
use Rattle.m17_floor.specs.declared.verdict.Verdict.{Verdict}
use Rattle.m17_floor.specs.declared.verdict.Verdict.TheVariants as floor
use Rattle.m17_floor.specs.Renamed.{unnamed_verdict}
use Rattle.m17_directory.specs.declared.verdict.LinkVerdict.{LinkVerdict}
use Rattle.m17_directory.specs.declared.verdict.LinkVerdict.TheVariants as link
use Rattle.m17_directory.specs.declared.verdict.Act.TheVariants as act
use Rattle.m17_directory.specs.Entries.{Notice, Entry, notice_of, notice_at, is_fault, with_sender, peers_named}
use Rattle.m17_directory.specs.Given.{SayTheSame}
use Rattle.m17_directory.specs.Routed.{link_verdict}
use Rattle.m17_plan.specs.declared.plan.Plan.{Plan}
use Rattle.m17_house.specs.Free.{IsFreeReplayOf, ComeToTheSame}
use Rattle.m17_house.specs.Laws.{ReplaysGiveFreely, FreeReplaysComeToTheSame}
use Rattle.m17_house.specs.Replay.{packet_verdict, tally_of}
use Rattle.m17_plan.specs.Planned.{setup_of}
use Rattle.m17_print.specs.declared.kind.Kind.{Kind}
use Rattle.m17_print.specs.Kinds.{kinds, kind_word, kind_place}
use Rattle.m17_replay.specs.Lines.{link_text, line_with, verdict_line}
use Rattle.m17_replay.specs.Summary.{Outcome, kind_of, is_kind_at, count_at, count_line, peer_line, peers_text}
use Rattle.m17_replay.specs.Laws.{TextIsFreeOfPlaces}
use Rattle.m17_replay.specs.Replay.{is_lost, heard_count, outcome_of, line_of, lines_text, tally_at, summary_text, replay_text}
use Rattle.m17_replay.proofs.OneText.{heard_bytes}

-- neither a line nor a kind names the member that has the floor
packet_text_is : (letter : ℕ) (v : Option Verdict) → link_text (link.Routed letter act.Packet) v ≡ link_text (link.Routed letter act.Packet) (unnamed_verdict v)
packet_text_is letter None = refl
packet_text_is letter (Some floor.Opened) = refl
packet_text_is letter (Some floor.Continued) = refl
packet_text_is letter (Some (floor.Busy k)) = refl
packet_text_is letter (Some floor.Repeat) = refl
packet_text_is letter (Some (floor.Late y)) = refl
packet_text_is letter (Some floor.AfterEnd) = refl
packet_text_is letter (Some floor.TimedOut) = refl
packet_text_is letter (Some floor.NotMember) = refl
packet_text_is letter (Some floor.ListenOnly) = refl

text_is : (l : LinkVerdict) (v : Option Verdict) → link_text l v ≡ link_text l (unnamed_verdict v)
text_is (link.Routed letter act.Packet) v = packet_text_is letter v
text_is (link.Routed letter act.Join) v = refl
text_is (link.Routed letter act.Again) v = refl
text_is (link.Routed letter act.Leave) v = refl
text_is (link.Routed letter act.Pong) v = refl
text_is (link.Alive letter) v = refl
text_is link.Asks v = refl
text_is (link.Refused refusal) v = refl
text_is link.NotConnected v = refl
text_is (link.NotServed letter) v = refl
text_is link.Full v = refl
text_is link.Stray v = refl
text_is link.Timed v = refl
text_is link.Faulted v = refl
text_is link.Ended v = refl

packet_kind_is : (letter : ℕ) (v : Option Verdict) → kind_of (link.Routed letter act.Packet) v ≡ kind_of (link.Routed letter act.Packet) (unnamed_verdict v)
packet_kind_is letter None = refl
packet_kind_is letter (Some floor.Opened) = refl
packet_kind_is letter (Some floor.Continued) = refl
packet_kind_is letter (Some (floor.Busy k)) = refl
packet_kind_is letter (Some floor.Repeat) = refl
packet_kind_is letter (Some (floor.Late y)) = refl
packet_kind_is letter (Some floor.AfterEnd) = refl
packet_kind_is letter (Some floor.TimedOut) = refl
packet_kind_is letter (Some floor.NotMember) = refl
packet_kind_is letter (Some floor.ListenOnly) = refl

kind_is : (l : LinkVerdict) (v : Option Verdict) → kind_of l v ≡ kind_of l (unnamed_verdict v)
kind_is (link.Routed letter act.Packet) v = packet_kind_is letter v
kind_is (link.Routed letter act.Join) v = refl
kind_is (link.Routed letter act.Again) v = refl
kind_is (link.Routed letter act.Leave) v = refl
kind_is (link.Routed letter act.Pong) v = refl
kind_is (link.Alive letter) v = refl
kind_is link.Asks v = refl
kind_is (link.Refused refusal) v = refl
kind_is link.NotConnected v = refl
kind_is (link.NotServed letter) v = refl
kind_is link.Full v = refl
kind_is link.Stray v = refl
kind_is link.Timed v = refl
kind_is link.Faulted v = refl
kind_is link.Ended v = refl

-- they say the same
notice_get : (o u : Option Entry) → option_map (λ (entry : Entry). entry.notice) o ≡ option_map (λ (entry : Entry). entry.notice) u → notice_of o ≡ notice_of u
notice_get None None e = refl
notice_get (Some a) (Some b) e = cc
notice_get None (Some b) e = absurd (cc)
notice_get (Some a) None e = absurd (cc)

say_at : (one other : List Entry) → SayTheSame one other → (i : ℕ) → notice_at one i ≡ notice_at other i
say_at one other same i =
    notice_get (slice_get one i) (slice_get other i)
    (sym (slice_get-map (λ (entry : Entry). entry.notice) one i) ∙ ap (λ (xs : List Notice). slice_get xs i) same ∙ slice_get-map (λ (entry : Entry). entry.notice) other i)

as_many : (one other : List Entry) → SayTheSame one other → length one ≡ length other
as_many one other same =
    sym (length-map one (λ (entry : Entry). entry.notice)) ∙ ap length same ∙ length-map other (λ (entry : Entry). entry.notice)

peers_same : (one other : List Entry) (n : ℕ) → SayTheSame one other → peers_named one n ≡ peers_named other n
unfolding peers_named
peers_same one other zero same = refl
peers_same one other (suc n) same =
    ap (λ y. with_sender y (peers_named one n)) (say_at one other same n) ∙ ap (with_sender (notice_at other n)) (peers_same one other n same)

lost_same : (one other : List Entry) → SayTheSame one other → is_lost one ≡ is_lost other
lost_same one other same =
    ap is_fault (say_at one other same (length one - 1)) ∙ ap (λ m. is_fault (notice_at other (m - 1))) (as_many one other same)

count_same : (one other : List Entry) → SayTheSame one other → heard_count one ≡ heard_count other
count_same one other same =
    ap (λ m. cond (is_lost one) m (m - 1)) (as_many one other same) ∙ ap (λ b. cond b (length other) (length other - 1)) (lost_same one other same)

count_le : (b : Bool) (n : ℕ) → cond b n (n - 1) ≤ n
count_le true n = omega arith
count_le false n = omega arith

flat_each : {A X : Type 0} (f g : A → List X) (xs : List A) → ((x : A) → f x ≡ g x) → flat_map f xs ≡ flat_map g xs
flat_each f g [] h = refl
flat_each f g (x ∷ xs) h = ap (λ us. us ++ flat_map f xs) (h x) ∙ ap (λ us. g x ++ us) (flat_each f g xs h)

abbrev counts : ℕ → Outcome → Bool
counts place o = is_kind_at place (kind_of o.0 o.1)

counted_same : (place : ℕ) (f g : ℕ → Outcome) (from n : ℕ) → ((i : ℕ) → i < from + n → counts place (f i) ≡ counts place (g i)) → count_at place (map f (range_with_len from n)) ≡ count_at place (map g (range_with_len from n))
counted_same place f g from zero h = refl
counted_same place f g from (suc n) h =
    sum_by-cons (λ (o : Outcome). cond (counts place o) 1 0) (f from) (map f (range_with_len (from + 1) n))
    ∙ ap (λ b. cond b 1 0 + count_at place (map f (range_with_len (from + 1) n))) (h from (omega arith))
    ∙ ap (λ m. cond (counts place (g from)) 1 0 + m) (counted_same place f g (from + 1) n (λ i l. h i (omega arith)))
    ∙ sym (sum_by-cons (λ (o : Outcome). cond (counts place o) 1 0) (g from) (map g (range_with_len (from + 1) n)))

-- the word before the number of entries
abbrev entries_word : List ℕ
entries_word = codes "entries"

summary_parts : (a a' b b' c c' : List ℕ) → a ≡ a' → b ≡ b' → c ≡ c' → (a ++ b) ++ c ≡ (a' ++ b') ++ c'
summary_parts a a' b b' c c' p q r = ap (λ x. (x ++ b) ++ c) p ∙ ap (λ x. (a' ++ x) ++ c) q ∙ ap (λ x. (a' ++ b') ++ x) r

module _ (plan : Plan) (one other : List Entry) (alike : ComeToTheSame plan one other) where
  line_same : (n : ℕ) → n < length one → line_of plan one n ≡ line_of plan other n
  line_same n l =
      ap (λ v. verdict_line n v (packet_verdict plan one n)) (alike.verdicts n l)
      ∙ ap (line_with n)
      (text_is (link_verdict (setup_of plan) other n) (packet_verdict plan one n)
      ∙ ap (link_text (link_verdict (setup_of plan) other n)) (alike.packets n l)
      ∙ sym (text_is (link_verdict (setup_of plan) other n) (packet_verdict plan other n)))

  kind_same : (n : ℕ) → n < length one → kind_of (link_verdict (setup_of plan) one n) (packet_verdict plan one n) ≡ kind_of (link_verdict (setup_of plan) other n) (packet_verdict plan other n)
  kind_same n l =
      ap (λ v. kind_of v (packet_verdict plan one n)) (alike.verdicts n l)
      ∙ kind_is (link_verdict (setup_of plan) other n) (packet_verdict plan one n)
      ∙ ap (kind_of (link_verdict (setup_of plan) other n)) (alike.packets n l)
      ∙ sym (kind_is (link_verdict (setup_of plan) other n) (packet_verdict plan other n))

  within : (i : ℕ) → i < 0 + heard_count one → i < length one
  within i l = omega (arith, count_le (is_lost one) (length one))

  lines_same : lines_text plan one ≡ lines_text plan other
  unfolding lines_text
  lines_same =
      same_at_each_number (line_of plan one) (line_of plan other) 0 (heard_count one) (λ i l. line_same i (within i l))
      ∙ ap (λ m. flat_map (line_of plan other) (range_with_len 0 m)) (count_same one other alike.same)

  kinds_same : (place : ℕ) → count_at place (map (outcome_of plan one) (range_with_len 0 (heard_count one))) ≡ count_at place (map (outcome_of plan other) (range_with_len 0 (heard_count other)))
  kinds_same place =
      counted_same place (outcome_of plan one) (outcome_of plan other) 0 (heard_count one) (λ i l. ap (is_kind_at place) (kind_same i (within i l)))
      ∙ ap (λ m. count_at place (map (outcome_of plan other) (range_with_len 0 m))) (count_same one other alike.same)

  tallies_same : (x : Peer) → tally_at plan one x ≡ tally_at plan other x
  tallies_same x = ap tally_of (alike.said x)

  summary_same : summary_text plan one ≡ summary_text plan other
  unfolding summary_text
  summary_same =
      let outcomes : List Entry → List Outcome = λ entries. map (outcome_of plan entries) (range_with_len 0 (heard_count entries)) in
      let lines : (List Entry) → List ℕ = λ entries. flat_map (λ (kind : Kind). count_line (kind_word kind) (count_at (kind_place kind) (outcomes entries))) kinds in
      let peers : (List Entry) → List Peer → List ℕ = λ entries xs. peers_text (tally_at plan entries) xs in
      let first : lines one ≡ lines other = flat_each (λ (kind : Kind). count_line (kind_word kind) (count_at (kind_place kind) (outcomes one))) (λ (kind : Kind). count_line (kind_word kind) (count_at (kind_place kind) (outcomes other))) kinds (λ kind. ap (count_line (kind_word kind)) (kinds_same (kind_place kind))) in
      let named : peers_named one (length one) ≡ peers_named other (length other) = peers_same one other (length one) alike.same ∙ ap (peers_named other) (as_many one other alike.same) in
      let last : (xs : List Peer) → peers one xs ≡ peers other xs = λ xs. flat_each (λ (peer : Peer). peer_line peer (tally_at plan one peer)) (λ (peer : Peer). peer_line peer (tally_at plan other peer)) xs (λ peer. ap (peer_line peer) (tallies_same peer)) in
      summary_parts (count_line entries_word (heard_count one)) (count_line entries_word (heard_count other)) (lines one) (lines other) (peers one (peers_named one (length one))) (peers other (peers_named other (length other)))
      (ap (count_line entries_word) (count_same one other alike.same)) first (last (peers_named one (length one)) ∙ ap (peers other) named)

  pub text_same : (summary : Bool) → replay_text plan summary one ≡ replay_text plan summary other
  text_same true = summary_same
  text_same false = lines_same

-- The text is free of places.
pub text_is_free : TracesAreExact → ReplaysGiveFreely → FreeReplaysComeToTheSame → TextIsFreeOfPlaces
text_is_free exact gives law = record {
  given = λ plan summary lost bytes text r. record {
    heard = r.heard;
    entries = r.entries;
    is_trace = r.is_trace;
    is_replay = gives plan r.heard r.entries r.is_replay;
    is_lost_so = r.is_lost_so;
    text_is = r.text_is;
  };
  same = λ plan summary lost lost' bytes text text' r s.
      let heards : s.heard ≡ r.heard = exact.one_value bytes s.heard r.heard s.is_trace r.is_trace in
      let there : IsFreeReplayOf plan r.heard s.entries = subst (λ (hs : List Heard). IsFreeReplayOf plan hs s.entries) heards s.is_replay in
      let alike : ComeToTheSame plan r.entries s.entries = law plan r.heard r.entries s.entries (heard_bytes bytes r.heard r.is_trace) r.is_replay there in (
        sym r.is_lost_so ∙ lost_same r.entries s.entries alike.same ∙ s.is_lost_so,
        r.text_is ∙ text_same plan r.entries s.entries alike summary ∙ sym s.text_is,
      );
}
