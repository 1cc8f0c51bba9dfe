-- The members of the claims are those that join, and whoever leaves was known.
use Rattle.std.proofs.Common.{◌≡◌, ℕ, zero, suc, ◌+◌, ◌<◌, ◌≤◌, Bool, true, false, cond, List, [], ◌∷◌, ◌++◌, length, map, filter, filter_map, slice_get, option_and_then, option_map, Option, None, Some, refl, ap, sym, ◌∙◌, subst, arith, length-append}
use Rattle.std.specs.List.{cons_option, flat_map, range_with_len}
use Rattle.std.proofs.lemmas.List.{map-append}
use Rattle.std.proofs.lemmas.List.Elements.{filter_map-append}
use Rattle.m17_values.specs.declared.member.Member.{Member}
use Rattle.m17_control.specs.declared.event.Event.{Event}
use Rattle.m17_directory.specs.declared.known.Departed.{Departed}
use Rattle.m17_directory.specs.declared.known.Known.{Known}
use Rattle.m17_directory.specs.Entries.{Notice, Claim, Entry, Setup, notice_at, claim_at}
use Rattle.m17_directory.specs.Known.{Past, now, request_in, known_at}
use Rattle.m17_directory.specs.Outcome.{Here, has_place}
use Rattle.m17_directory.specs.Routed.{here_of, unclaimed_at, others_at, settled_at, asks_at, both, past_at, outcome_at}
use Rattle.m17_directory.specs.StandsFor.{departed_of}
use Rattle.m17_directory.specs.Laws.{ClaimsAreAsked, joiner_of, join_by, all_joins, joined_by, joined_before, claimed_members, EachClaimJoins, LeaversWereKnown}
use Rattle.m17_directory.proofs.Same.{length_asked}
use Rattle.m17_directory.proofs.LawCounts.{count, count_is, count_append, count_parts}
use Rattle.m17_directory.proofs.LawWho.{AsksFor, asks_one, heard_count, others_are}
use Rattle.m17_directory.proofs.LawLeaves.{none_settled, settled_some}
use Rattle.m17_directory.proofs.LawPeers.{seat_heard}

-- the member of an entry's claim, as a list
abbrev member_in : Option Entry → List Member
member_in o = cons_option (option_map (λ (claim : Claim). claim.member) (option_and_then (λ (entry : Entry). entry.claim) o)) []

-- what is read off a list position by position
get_here : (pre : List Entry) (e : Entry) (xs : List Entry) → slice_get (pre ++ e ∷ xs) (length pre) ≡ Some e
get_here [] e xs = refl
get_here (p ∷ pre) e xs = get_here pre e xs

append_one : (pre : List Entry) (e : Entry) (xs : List Entry) → pre ++ e ∷ xs ≡ (pre ++ e ∷ []) ++ xs
append_one [] e xs = refl
append_one (p ∷ pre) e xs = ap (λ ys. p ∷ ys) (append_one pre e xs)

length_one : (pre : List Entry) (e : Entry) → length pre + 1 ≡ length (pre ++ e ∷ [])
length_one pre e = omega (arith, length-append pre (e ∷ []))

one_member : (o : Option Member) (ms : List Member) → cons_option o [] ++ ms ≡ cons_option o ms
one_member None ms = refl
one_member (Some m) ms = refl

members_from : (pre xs : List Entry) → flat_map (λ i. member_in (slice_get (pre ++ xs) i)) (range_with_len (length pre) (length xs)) ≡ claimed_members xs
members_from pre [] = refl
members_from pre (e ∷ xs) =
    let f : List Entry → ℕ → List Member = λ es i. member_in (slice_get es i) in
    let rest : flat_map (f (pre ++ e ∷ xs)) (range_with_len (length pre + 1) (length xs)) ≡ claimed_members xs =
    ap (λ es. flat_map (f es) (range_with_len (length pre + 1) (length xs))) (append_one pre e xs)
    ∙ ap (λ n. flat_map (f ((pre ++ e ∷ []) ++ xs)) (range_with_len n (length xs))) (length_one pre e)
    ∙ members_from (pre ++ e ∷ []) xs in
    ap (λ o. member_in o ++ flat_map (f (pre ++ e ∷ xs)) (range_with_len (length pre + 1) (length xs))) (get_here pre e xs)
    ∙ ap (λ ms. member_in (Some e) ++ ms) rest
    ∙ one_member (option_map (λ (claim : Claim). claim.member) e.claim) (claimed_members xs)

-- what is read off each position's list, one position after another
read_each : {A B : Type 0} (read : A → Option B) (f : ℕ → List A) (g : ℕ → List B) (from n : ℕ) → ((i : ℕ) → i < from + n → filter_map read (f i) ≡ g i) → filter_map read (flat_map f (range_with_len from n)) ≡ flat_map g (range_with_len from n)
read_each read f g from zero h = refl
read_each read f g from (suc n) h =
    filter_map-append read (f from) (flat_map f (range_with_len (from + 1) n))
    ∙ ap (λ xs. xs ++ filter_map read (flat_map f (range_with_len (from + 1) n))) (h from (omega arith))
    ∙ ap (λ xs. g from ++ xs) (read_each read f g (from + 1) n (λ i l. h i (omega arith)))

map_each : {A B : Type 0} (p : A → B) (f : ℕ → List A) (g : ℕ → List B) (from n : ℕ) → ((i : ℕ) → i < from + n → map p (f i) ≡ g i) → map p (flat_map f (range_with_len from n)) ≡ flat_map g (range_with_len from n)
map_each p f g from zero h = refl
map_each p f g from (suc n) h =
    map-append p (f from) (flat_map f (range_with_len (from + 1) n))
    ∙ ap (λ xs. xs ++ map p (flat_map f (range_with_len (from + 1) n))) (h from (omega arith))
    ∙ ap (λ xs. g from ++ xs) (map_each p f g (from + 1) n (λ i l. h i (omega arith)))

abbrev joiner : Event → Option Member
joiner event = joiner_of event.body

abbrev joined_member : Departed → Member
joined_member d = d.member

join_read : (here : Here) (notice : Notice) (claim : Option Claim) → AsksFor notice → filter_map joiner (join_by here notice (request_in notice) claim) ≡ cons_option (option_map (λ (c : Claim). c.member) claim) []
join_read here notice None one =
    ap (λ y. filter_map joiner (join_by here y (request_in y) None)) one.says
    ∙ ap (λ r. filter_map joiner (join_by here (Notice.Sent one.from one.at one.packet) r None)) one.wants
join_read here notice (Some claim) one =
    ap (λ y. filter_map joiner (join_by here y (request_in y) (Some claim))) one.says
    ∙ ap (λ r. filter_map joiner (join_by here (Notice.Sent one.from one.at one.packet) r (Some claim))) one.wants

joined_read : (notice : Notice) (claim : Option Claim) → AsksFor notice → map joined_member (joined_by notice claim) ≡ cons_option (option_map (λ (c : Claim). c.member) claim) []
joined_read notice None one = ap (λ y. map joined_member (joined_by y None)) one.says
joined_read notice (Some claim) one = ap (λ y. map joined_member (joined_by y (Some claim))) one.says

module _ (setup : Setup) (entries : List Entry) (claims : ClaimsAreAsked setup entries) where
  abbrev joins_if : ℕ → Bool → List Event
  joins_if i b = cond b (join_by (here_of (past_at setup entries i)) (notice_at entries i) (request_in (notice_at entries i)) (claim_at entries i)) []

  abbrev joined_if : ℕ → Bool → List Departed
  joined_if i b = cond b (joined_by (notice_at entries i) (claim_at entries i)) []

  asks_for : (i : ℕ) → asks_at (past_at setup entries i) ≡ true → AsksFor (notice_at entries i)
  asks_for i asks = subst (λ (m : ℕ). AsksFor (notice_at entries m)) (length_asked setup entries i) (asks_one (past_at setup entries i) asks)

  join_step : (i : ℕ) (b : Bool) → i < length entries → asks_at (past_at setup entries i) ≡ b → filter_map joiner (joins_if i b) ≡ member_in (slice_get entries i)
  join_step i true l asks = join_read (here_of (past_at setup entries i)) (notice_at entries i) (claim_at entries i) (asks_for i asks)
  join_step i false l asks = ap (λ o. cons_option (option_map (λ (c : Claim). c.member) o) []) (sym (claims i l asks))

  joined_step : (i : ℕ) (b : Bool) → i < length entries → asks_at (past_at setup entries i) ≡ b → map joined_member (joined_if i b) ≡ member_in (slice_get entries i)
  joined_step i true l asks = joined_read (notice_at entries i) (claim_at entries i) (asks_for i asks)
  joined_step i false l asks = ap (λ o. cons_option (option_map (λ (c : Claim). c.member) o) []) (sym (claims i l asks))

  all_join : filter_map joiner (all_joins setup entries) ≡ claimed_members entries
  unfolding all_joins
  all_join =
      read_each joiner (λ i. joins_if i (asks_at (past_at setup entries i))) (λ i. member_in (slice_get entries i)) 0 (length entries) (λ i l. join_step i (asks_at (past_at setup entries i)) (omega arith) refl)
      ∙ members_from [] entries

  all_joined : map joined_member (joined_before setup entries (length entries)) ≡ claimed_members entries
  unfolding joined_before
  all_joined =
      map_each joined_member (λ i. joined_if i (asks_at (past_at setup entries i))) (λ i. member_in (slice_get entries i)) 0 (length entries) (λ i l. joined_step i (asks_at (past_at setup entries i)) (omega arith) refl)
      ∙ members_from [] entries

pub claim_joins : EachClaimJoins
claim_joins = record { joins = all_join; joined = all_joined }

-- who leaves is counted among the known
module _ (test : Departed → Bool) where
  abbrev such : Known → Bool
  such k = test (departed_of k)

  heard_few : (past : Past) → count such (unclaimed_at past).left ≤ count such (known_at past)
  heard_few past =
      let sum = heard_count past such (seat_heard test) in
      omega (arith, sum)

  asking_few : (past : Past) (claim : Option Claim) → asks_at past ≡ true → count such (both (unclaimed_at past) (settled_at past claim)).left ≤ count such (known_at past)
  asking_few past None asks =
      let sum : count such ((unclaimed_at past).left ++ (settled_at past None).left) ≡ count such (unclaimed_at past).left + 0 =
      count_append such (unclaimed_at past).left (settled_at past None).left ∙ ap (λ ks. count such (unclaimed_at past).left + count such ks) (none_settled past) in
      omega (arith, sum, heard_few past)
  asking_few past (Some claim) asks =
      let replaced : List Known = filter (has_place claim.member.place) (others_at past) in
      let sum : count such ((unclaimed_at past).left ++ (settled_at past (Some claim)).left) ≡ count such (unclaimed_at past).left + count such replaced =
      count_append such (unclaimed_at past).left (settled_at past (Some claim)).left
      ∙ ap (λ ks. count such (unclaimed_at past).left + count such ks) (settled_some past claim (asks_one past asks)) in
      let heard : count such (others_at past) + count such (unclaimed_at past).left ≡ count such (known_at past) =
      ap (λ ks. count such ks + count such (unclaimed_at past).left) (sym (others_are past asks)) ∙ heard_count past such (seat_heard test) in
      omega (arith, sum, heard, count_parts such (has_place claim.member.place) (others_at past))

  few_by : (past : Past) (claim : Option Claim) (b : Bool) → asks_at past ≡ b → count such (cond b (both (unclaimed_at past) (settled_at past claim)) (unclaimed_at past)).left ≤ count such (known_at past)
  few_by past claim true asks = asking_few past claim asks
  few_by past claim false asks = heard_few past

pub were_known : LeaversWereKnown
were_known setup entries n test =
    let past : Past = past_at setup entries n in
    let p : Known → Bool = λ k. test (departed_of k) in
    let few : count p (outcome_at setup entries n).left ≤ count p (known_at past) = few_by test past (claim_at entries (now past)) (asks_at past) refl in
    omega (arith, few, count_is p (outcome_at setup entries n).left, count_is p (known_at past))
