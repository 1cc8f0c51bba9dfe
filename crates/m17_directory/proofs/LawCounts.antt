-- How many rows of a kind are known after an entry, and how many leave by it.
use Rattle.std.proofs.Common.{◌≡◌, ℕ, ◌+◌, Bool, true, false, cond, not, ◌&&◌, eqb, List, [], ◌∷◌, ◌++◌, map, filter, count_by, Option, None, Some, Ordering, Less, Equal, Greater, inl, inr, refl, ap, sym, ◌∙◌, arith}
use Rattle.std.specs.List.{AllByRecursion}
use Rattle.std.specs.Ordering.{match_ordering}
use Rattle.std.proofs.lemmas.Bool.{false≢true}
use Rattle.std.proofs.lemmas.Option.{same_Some, none-some}
use Rattle.std.proofs.lemmas.List.Sums.{sum_by-append}
use Rattle.m17_values.specs.declared.member.Member.{Member}
use Rattle.m17_values.specs.declared.peer.Peer.{Peer}
use Rattle.m17_control.specs.declared.packet.Packet.{Packet}
use Rattle.m17_directory.specs.declared.known.Known.{Known}
use Rattle.m17_directory.specs.declared.verdict.LinkVerdict.TheVariants as verdict
use Rattle.m17_directory.specs.Entries.{Notice, peer_cmp, is_peer}
use Rattle.m17_directory.specs.Outcome.{Here, only, of_known, of_other, of_packet, of_end}
use Rattle.m17_directory.specs.Routed.{is_silent, row_for}
use Rattle.m17_directory.specs.Steps.{IsInOrder, heard_now, is_other, with_row, rows_by, silent_by, still_by, said_by, known_by}
use Rattle.m17_directory.proofs.Peers.{peer_same, is_peer_same, is_peer_from}
use Rattle.m17_directory.proofs.Rows.{after_none, after_same, order_filter}
use Rattle.m17_directory.proofs.Taken.{no_row_other}
use Rattle.m17_directory.proofs.Lines.{left_is, other_left}

abbrev pub count : {X : Type 0} → (X → Bool) → List X → ℕ
count p [] = 0
count p (x ∷ xs) = cond (p x) 1 0 + count p xs

pub count_is : {X : Type 0} (p : X → Bool) (xs : List X) → count_by p xs ≡ count p xs
count_is p [] = refl
count_is p (x ∷ xs) = omega (arith, sum_by-append (λ y. cond (p y) 1 0) (x ∷ []) xs, count_is p xs)

pub count_append : {X : Type 0} (p : X → Bool) (xs ys : List X) → count p (xs ++ ys) ≡ count p xs + count p ys
count_append p [] ys = omega arith
count_append p (x ∷ xs) ys = omega (arith, count_append p xs ys)

pub count_parts : {X : Type 0} (p q : X → Bool) (xs : List X) → count p (filter q xs) + count p (filter (λ x. not (q x)) xs) ≡ count p xs
count_parts p q [] = omega arith
count_parts p q (x ∷ xs) =
    elim (q x) as (λ b. count p (cond b (x ∷ filter q xs) (filter q xs)) + count p (cond (not b) (x ∷ filter (λ y. not (q y)) xs) (filter (λ y. not (q y)) xs)) ≡ cond (p x) 1 0 + count p xs)
    [ true ↦ omega (arith, count_parts p q xs) | false ↦ omega (arith, count_parts p q xs) ]

pub count_map : {X Y : Type 0} (p : Y → Bool) (q : X → Bool) (f : X → Y) (xs : List X) → ((x : X) → p (f x) ≡ q x) → count p (map f xs) ≡ count q xs
count_map p q f [] h = refl
count_map p q f (x ∷ xs) h = ap (λ b. cond b 1 0 + count p (map f xs)) (h x) ∙ ap (λ n. cond (q x) 1 0 + n) (count_map p q f xs h)

-- a row of this module, and of such a member
abbrev pub is_such : ℕ → (Member → Bool) → Known → Bool
is_such letter test k = eqb k.letter letter && test k.member

pub such_heard : (letter : ℕ) (test : Member → Bool) (x : Peer) (m : ℕ) (k : Known) → is_such letter test (heard_now x m k) ≡ is_such letter test k
such_heard letter test x m k = elim (is_peer x k.peer) as (λ b. is_such letter test (cond b (record k { heard_at = m }) k) ≡ is_such letter test k) [ true ↦ refl | false ↦ refl ]

other_step : (p : Known → Bool) (x : Peer) (r k : Known) (rows : List Known) (b : Bool) → cond b (Some r) (row_for x rows) ≡ Some k → (b ≡ true → filter (is_other x) rows ≡ rows)
    → (row_for x rows ≡ Some k → count p (filter (is_other x) rows) + cond (p k) 1 0 ≡ count p rows)
    → count p (cond (not b) (r ∷ filter (is_other x) rows) (filter (is_other x) rows)) + cond (p k) 1 0 ≡ cond (p r) 1 0 + count p rows
other_step p x r k rows true e same ih =
    let c : ◌≡◌ {A = ℕ} (cond (p r) 1 0) (cond (p k) 1 0) = ap (λ z. cond (p z) 1 0) (same_Some r k e) in
    let f : count p (filter (is_other x) rows) ≡ count p rows = ap (count p) (same refl) in
    omega (arith, c, f)
other_step p x r k rows false e same ih = omega (arith, ih e)

count_other : (p : Known → Bool) (x : Peer) (k : Known) (rows : List Known) → IsInOrder rows → row_for x rows ≡ Some k → count p (filter (is_other x) rows) + cond (p k) 1 0 ≡ count p rows
count_other p x k [] h e = absurd (none-some k e)
count_other p x k (r ∷ rows) h e =
    other_step p x r k rows (is_peer x r.peer) e
    (λ s. no_row_other x rows (after_none x rows (after_same x r.peer rows (is_peer_same x r.peer s) h.0)))
    (count_other p x k rows h.1)

sums : (a s l t r : ℕ) → s + t ≡ r → a + l ≡ t → a + (s + l) ≡ r
sums a s l t r e f = omega arith

swaps : (s t r : ℕ) → s + t ≡ r → t + (s + 0) ≡ r
swaps s t r e = omega arith

zeros : (r : ℕ) → 0 + (0 + r) ≡ r
zeros r = omega arith

zeros_right : (r : ℕ) → r + (0 + 0) ≡ r
zeros_right r = omega arith

module _ (such : Known → Bool) (keeps : (x : Peer) (m : ℕ) (k : Known) → such (heard_now x m k) ≡ such k) where
  -- what is known and what has left, together
  abbrev both_count : Here → Peer → List Known → List Known → ℕ
  both_count here x still left = count such (rows_by here x left still) + count such left

  nobody_left : (here : Here) (x : Peer) (still left : List Known) → left ≡ [] → both_count here x still left ≡ count such still
  nobody_left at x still left e =
      let same : count such (map (heard_now x at.moment) still) ≡ count such still = count_map such such (heard_now x at.moment) still (keeps x at.moment) in
      ap (both_count at x still) e ∙ omega (arith, same)

  one_left : (here : Here) (x : Peer) (k : Known) (still left : List Known) → IsInOrder still → row_for x still ≡ Some k → left ≡ k ∷ [] → both_count here x still left ≡ count such still
  one_left at x k still left h row e =
      ap (both_count at x still) e ∙ omega (arith, count_other such x k still h row)

  packet_count : (here : Here) (x : Peer) (still : List Known) (p : Packet) (o : Option Known) → IsInOrder still → row_for x still ≡ o → both_count here x still (of_packet here x o p).left ≡ count such still
  packet_count at x still p None h row = nobody_left at x still (of_other at x p).left (other_left at x p)
  packet_count at x still p (Some k) h row = elim (left_is at k p) [
    | inl e ↦ nobody_left at x still (of_known at k p).left e
    | inr e ↦ one_left at x k still (of_known at k p).left h row e
  ]

  pub known_count : (here : Here) (ends : Bool) (rows : List Known) (notice : Notice) → IsInOrder rows
      → count such (known_by here ends rows (still_by here rows notice) notice) + (count such (silent_by here rows notice) + count such (said_by here ends rows (still_by here rows notice) notice).left) ≡ count such rows
  known_count at ends rows (Notice.Sent from m p) h =
      let still : List Known = filter (λ k. not (is_silent at.moment k)) rows in
      let parts : count such (filter (is_silent at.moment) rows) + count such still ≡ count such rows = count_parts such (is_silent at.moment) rows in
      let packet : both_count at from still (of_packet at from (row_for from still) p).left ≡ count such still =
      packet_count at from still p (row_for from still) (order_filter (λ k. not (is_silent at.moment k)) rows h) refl in
      sums (count such (rows_by at from (of_packet at from (row_for from still) p).left still)) (count such (filter (is_silent at.moment) rows)) (count such (of_packet at from (row_for from still) p).left) (count such still) (count such rows) parts packet
  known_count at ends rows (Notice.Garbled from m refusal) h = swaps _ _ _ (count_parts such (is_silent at.moment) rows)
  known_count at ends rows (Notice.Quiet m) h = swaps _ _ _ (count_parts such (is_silent at.moment) rows)
  known_count at ends rows Notice.Fault h =
      elim ends as (λ b. count such (cond b [] rows) + (0 + count such (cond b (of_end at rows) (only verdict.Faulted)).left) ≡ count such rows) [ true ↦ zeros (count such rows) | false ↦ zeros_right (count such rows) ]
  known_count at ends rows Notice.End h = zeros (count such rows)

-- a row that is put in for a peer that has none
abbrev pub NoneOf : Peer → List Known → Type 0
NoneOf x rows = AllByRecursion (λ (k : Known). is_other x k ≡ true) rows

put_step : (p : Known → Bool) (k r : Known) (rows : List Known) (o : Ordering) → o ≡ peer_cmp k.peer r.peer → is_other k.peer r ≡ true → count p (with_row k rows) ≡ cond (p k) 1 0 + count p rows
    → count p (match_ordering o (k ∷ r ∷ rows) (k ∷ rows) (r ∷ with_row k rows)) ≡ cond (p k) 1 0 + (cond (p r) 1 0 + count p rows)
put_step p k r rows Less e other h = refl
put_step p k r rows Equal e other h = absurd (false≢true (sym (ap not (is_peer_from k.peer r.peer (peer_same k.peer r.peer (sym e)))) ∙ other))
put_step p k r rows Greater e other h = omega (arith, h)

pub put_count : (p : Known → Bool) (k : Known) (rows : List Known) → NoneOf k.peer rows → count p (with_row k rows) ≡ cond (p k) 1 0 + count p rows
put_count p k [] h = refl
put_count p k (r ∷ rows) h = put_step p k r rows (peer_cmp k.peer r.peer) refl h.0 (put_count p k rows h.1)
