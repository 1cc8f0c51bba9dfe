-- Who has joined has left or is known, each with its peer.
use Rattle.std.proofs.Common.{◌≡◌, ℕ, zero, suc, ◌+◌, ◌<◌, ◌≤◌, Bool, true, false, cond, not, ◌&&◌, List, [], ◌∷◌, ◌++◌, length, map, filter, count_by, Option, None, Some, refl, ap, sym, ◌∙◌, subst, arith}
use Rattle.std.specs.List.{flat_map, range_with_len}
use Rattle.std.proofs.lemmas.Bool.{false≢true}
use Rattle.m17_lists.proofs.Ranges.{one_number_more}
use Rattle.m17_values.specs.declared.member.Member.{Member}
use Rattle.m17_values.specs.declared.peer.Peer.{Peer}
use Rattle.m17_directory.specs.declared.known.Departed.{Departed}
use Rattle.m17_directory.specs.declared.known.Known.{Known}
use Rattle.m17_directory.specs.Entries.{Notice, Claim, Entry, Setup, notice_at, claim_at, is_peer, is_from, peers_named}
use Rattle.m17_directory.specs.Known.{Past, now, known_at}
use Rattle.m17_directory.specs.Outcome.{Outcome, has_place}
use Rattle.m17_directory.specs.Routed.{unclaimed_at, others_than, others_at, settled_at, asks_at, both, asked_before, past_at, outcome_at}
use Rattle.m17_directory.specs.StandsFor.{departed_of}
use Rattle.m17_directory.specs.Laws.{ClaimsAreAsked, joined_by, joined_before, left_before, is_of_peer, PeersComeAndGo}
use Rattle.m17_directory.specs.Steps.{heard_now, is_other}
use Rattle.m17_directory.proofs.Peers.{is_peer_same}
use Rattle.m17_directory.proofs.Same.{length_asked}
use Rattle.m17_directory.proofs.LawMore.{others_is}
use Rattle.m17_directory.proofs.LawCounts.{count, count_is, count_append, count_map, NoneOf}
use Rattle.m17_directory.proofs.LawWho.{AsksFor, still, asks_one, heard_count, others_are, others_none, known_next, claim_count}
use Rattle.m17_directory.proofs.LawLeaves.{none_settled, settled_some, no_more, step_sum, none_sum, all_sum, plus_zero}

pub seat_heard : (test : Departed → Bool) (x : Peer) (m : ℕ) (k : Known) → test (departed_of (heard_now x m k)) ≡ test (departed_of k)
seat_heard test x m k = elim (is_peer x k.peer) as (λ b. test (departed_of (cond b (record k { heard_at = m }) k)) ≡ test (departed_of k)) [ true ↦ refl | false ↦ refl ]

joined_none : (notice : Notice) → joined_by notice None ≡ []
joined_none (Notice.Sent from at p) = refl
joined_none (Notice.Garbled from at refusal) = refl
joined_none (Notice.Quiet at) = refl
joined_none Notice.Fault = refl
joined_none Notice.End = refl

module _ (setup : Setup) (entries : List Entry) (test : Departed → Bool) where
  abbrev such : Known → Bool
  such k = test (departed_of k)

  abbrev known_count : ℕ → ℕ
  known_count n = count such (known_at (past_at setup entries n))

  abbrev out : ℕ → Bool → Option Claim → Outcome
  out n asks claim = cond asks (both (unclaimed_at (past_at setup entries n)) (settled_at (past_at setup entries n) claim)) (unclaimed_at (past_at setup entries n))

  abbrev joins : ℕ → Bool → Option Claim → List Departed
  joins n asks claim = cond asks (joined_by (notice_at entries n) claim) []

  abbrev Step : ℕ → Bool → Option Claim → Type 0
  Step n asks claim = known_count (suc n) + count such (out n asks claim).left ≡ known_count n + count test (joins n asks claim)

  none_next : (n : ℕ) → claim_at entries n ≡ None → known_count (suc n) + count such (unclaimed_at (past_at setup entries n)).left ≡ known_count n
  none_next n none =
      ap (λ ks. count such ks + count such (unclaimed_at (past_at setup entries n)).left) (known_next setup entries n none) ∙ heard_count (past_at setup entries n) such (seat_heard test)

  step_claim : (n : ℕ) → n < length entries → (asks : asks_at (past_at setup entries n) ≡ true) (claim : Claim) → claim_at entries n ≡ Some claim → Step n true (Some claim)
  step_claim n l asks claim given =
      let past : Past = past_at setup entries n in
      let one : AsksFor (notice_at entries (now past)) = asks_one past asks in
      let len : length (asked_before setup entries n) ≡ n = length_asked setup entries n in
      let replaced : List Known = filter (has_place claim.member.place) (others_at past) in
      let left : count such ((unclaimed_at past).left ++ (settled_at past (Some claim)).left) ≡ count such (unclaimed_at past).left + count such replaced =
      count_append such (unclaimed_at past).left (settled_at past (Some claim)).left
      ∙ ap (λ ks. count such (unclaimed_at past).left + count such ks) (settled_some past claim one) in
      let who : Departed = record { member = claim.member; peer = one.from } in
      let joined : count test (joined_by (notice_at entries n) (Some claim)) ≡ cond (test who) 1 0 =
      ap (λ m. count test (joined_by (notice_at entries m) (Some claim))) (sym len)
      ∙ ap (λ y. count test (joined_by y (Some claim))) one.says
      ∙ plus_zero (cond (test who) 1 0) in
      step_sum (known_count (suc n)) (known_count n) (count such (unclaimed_at past).left) (count such replaced) _ _ _ left joined (claim_count setup entries n l asks claim given such (seat_heard test))

  step_none : (n : ℕ) → claim_at entries n ≡ None → Step n true None
  step_none n none =
      let past : Past = past_at setup entries n in
      let left : count such ((unclaimed_at past).left ++ (settled_at past None).left) ≡ count such (unclaimed_at past).left + 0 =
      count_append such (unclaimed_at past).left (settled_at past None).left ∙ ap (λ ks. count such (unclaimed_at past).left + count such ks) (none_settled past) in
      let joined : count test (joined_by (notice_at entries n) None) ≡ 0 = ap (count test) (joined_none (notice_at entries n)) in
      none_sum (known_count (suc n)) (known_count n) (count such (unclaimed_at past).left) _ _ left joined (none_next n none)

  step_by : (n : ℕ) (b : Bool) (o : Option Claim) → n < length entries → asks_at (past_at setup entries n) ≡ b → claim_at entries n ≡ o → (b ≡ false → claim_at entries n ≡ None) → Step n b o
  step_by n true (Some claim) l asks given h = step_claim n l asks claim given
  step_by n true None l asks given h = step_none n given
  step_by n false o l asks given h = no_more (known_count (suc n) + count such (unclaimed_at (past_at setup entries n)).left) (known_count n) (none_next n (h refl))

  left_count : (n : ℕ) → count test (map departed_of (outcome_at setup entries n).left) ≡ count such (out n (asks_at (past_at setup entries n)) (claim_at entries n)).left
  left_count n =
      count_map test such departed_of (outcome_at setup entries n).left (λ k. refl)
      ∙ ap (λ m. count such (out n (asks_at (past_at setup entries n)) (claim_at entries m)).left) (length_asked setup entries n)

  joined_more : (n : ℕ) → count test (joined_before setup entries (suc n)) ≡ count test (joined_before setup entries n) + count test (joins n (asks_at (past_at setup entries n)) (claim_at entries n))
  unfolding joined_before
  joined_more n =
      let f : ℕ → List Departed = λ i. joins i (asks_at (past_at setup entries i)) (claim_at entries i) in
      ap (count test) (one_number_more f n) ∙ count_append test (flat_map f (range_with_len 0 n)) (f n)

  left_more : (n : ℕ) → count test (left_before setup entries (suc n)) ≡ count test (left_before setup entries n) + count such (out n (asks_at (past_at setup entries n)) (claim_at entries n)).left
  unfolding left_before
  left_more n =
      let f : ℕ → List Departed = λ i. map departed_of (outcome_at setup entries i).left in
      ap (count test) (one_number_more f n) ∙ count_append test (flat_map f (range_with_len 0 n)) (f n)
      ∙ ap (λ m. count test (flat_map f (range_with_len 0 n)) + m) (left_count n)

  nobody_first : known_at (past_at setup entries zero) ≡ []
  unfolding known_at asked_before peers_named
  nobody_first = refl

  joined_first : joined_before setup entries zero ≡ []
  unfolding joined_before
  joined_first = refl

  left_first : left_before setup entries zero ≡ []
  unfolding left_before
  left_first = refl

  upto : (n : ℕ) → n ≤ length entries → ClaimsAreAsked setup entries → count test (joined_before setup entries n) ≡ count test (left_before setup entries n) + known_count n
  upto zero l claims =
      let a : count test (joined_before setup entries zero) ≡ 0 = ap (count test) joined_first in
      let b : count test (left_before setup entries zero) ≡ 0 = ap (count test) left_first in
      let c : known_count zero ≡ 0 = ap (count such) nobody_first in
      omega (arith, a, b, c)
  upto (suc n) l claims =
      let asks : Bool = asks_at (past_at setup entries n) in
      let before : count test (joined_before setup entries n) ≡ count test (left_before setup entries n) + known_count n = upto n (omega arith) claims in
      let now : Step n asks (claim_at entries n) = step_by n asks (claim_at entries n) (omega arith) refl refl (claims n (omega arith)) in
      all_sum (count test (joined_before setup entries (suc n))) (count test (joined_before setup entries n)) (count test (joins n asks (claim_at entries n))) (count test (left_before setup entries (suc n))) (count test (left_before setup entries n)) (count such (out n asks (claim_at entries n)).left)
      (known_count (suc n)) (known_count n) (joined_more n) (left_more n) before now

so_far : (setup : Setup) (entries : List Entry) (n : ℕ) (test : Departed → Bool) → ClaimsAreAsked setup entries → n ≤ length entries
    → count_by test (joined_before setup entries n) ≡ count_by test (left_before setup entries n) + count_by (λ (k : Known). test (departed_of k)) (known_at (past_at setup entries n))
so_far setup entries n test claims l =
    let such : Known → Bool = λ k. test (departed_of k) in
    let rows : List Known = known_at (past_at setup entries n) in
    count_is test (joined_before setup entries n)
    ∙ upto setup entries test n l claims
    ∙ ap (λ m. m + count such rows) (sym (count_is test (left_before setup entries n)))
    ∙ ap (λ m. count_by test (left_before setup entries n) + m) (sym (count_is such rows))

zero_sum_of : (m : ℕ) → m ≡ 0 → 0 + m ≡ 0
zero_sum_of m e = omega arith

peer_sum : (joined left known others heard all : ℕ) → joined ≡ left + known → others + heard ≡ known → others ≡ 0 → all ≡ left + heard → joined ≡ all
peer_sum joined left known others heard all j h o a = omega arith

-- of a peer that has no row
none_step : (test : Member → Bool) (k : Known) (b : Bool) (m : ℕ) → not b ≡ true → m ≡ 0 → cond (b && test k.member) 1 0 + m ≡ 0
none_step test k true m e h = absurd (false≢true e)
none_step test k false m e h = zero_sum_of m h

none_counted : (x : Peer) (test : Member → Bool) (rows : List Known) → NoneOf x rows → count (λ (k : Known). is_of_peer x test (departed_of k)) rows ≡ 0
none_counted x test [] h = refl
none_counted x test (k ∷ rows) h = none_step test k (is_peer x k.peer) (count (λ (r : Known). is_of_peer x test (departed_of r)) rows) h.0 (none_counted x test rows h.1)

-- the peer is none of the others
none_than : (x : Peer) (notice : Notice) (rows : List Known) → is_from x notice ≡ true → NoneOf x (others_than notice rows)
none_than x (Notice.Sent from at p) rows e = subst (λ (y : Peer). NoneOf x (filter (is_other y) rows)) (is_peer_same x from e) (others_none x rows)
none_than x (Notice.Garbled from at refusal) rows e = absurd (false≢true e)
none_than x (Notice.Quiet at) rows e = absurd (false≢true e)
none_than x Notice.Fault rows e = absurd (false≢true e)
none_than x Notice.End rows e = absurd (false≢true e)

asking : (setup : Setup) (entries : List Entry) (n : ℕ) (x : Peer) (test : Member → Bool) → ClaimsAreAsked setup entries → n < length entries → asks_at (past_at setup entries n) ≡ true → is_from x (notice_at entries n) ≡ true
    → count_by (is_of_peer x test) (joined_before setup entries n) ≡ count_by (is_of_peer x test) (left_before setup entries n ++ map departed_of (unclaimed_at (past_at setup entries n)).left)
asking setup entries n x test claims l asks from =
    let past : Past = past_at setup entries n in
    let p : Departed → Bool = is_of_peer x test in
    let such : Known → Bool = λ k. p (departed_of k) in
    let now_from : is_from x (notice_at entries (now past)) ≡ true = ap (λ m. is_from x (notice_at entries m)) (length_asked setup entries n) ∙ from in
    let none : count such (others_at past) ≡ 0 = ap (count such) (others_is past) ∙ none_counted x test (others_than (notice_at entries (now past)) (still past)) (none_than x (notice_at entries (now past)) (still past) now_from) in
    let heard : count such (others_at past) + count such (unclaimed_at past).left ≡ count such (known_at past) =
    ap (λ ks. count such ks + count such (unclaimed_at past).left) (sym (others_are past asks)) ∙ heard_count past such (seat_heard p) in
    let before : count p (joined_before setup entries n) ≡ count p (left_before setup entries n) + count such (known_at past) = upto setup entries p n (omega arith) claims in
    let left : count p (left_before setup entries n ++ map departed_of (unclaimed_at past).left) ≡ count p (left_before setup entries n) + count such (unclaimed_at past).left =
    count_append p (left_before setup entries n) (map departed_of (unclaimed_at past).left)
    ∙ ap (λ m. count p (left_before setup entries n) + m) (count_map p such departed_of (unclaimed_at past).left (λ k. refl)) in
    count_is p (joined_before setup entries n)
    ∙ peer_sum (count p (joined_before setup entries n)) (count p (left_before setup entries n)) (count such (known_at past)) (count such (others_at past)) (count such (unclaimed_at past).left) _ before heard none left
    ∙ sym (count_is p (left_before setup entries n ++ map departed_of (unclaimed_at past).left))

pub come_and_go : PeersComeAndGo
come_and_go = record { so_far = so_far; asking = asking }
