-- Who is in, counted place by place, or by the positions of their Joins: it comes to the same.
use Rattle.std.proofs.Common.{◌≡◌, ◌≢◌, ℕ, zero, suc, ◌+◌, ◌<◌, Bool, true, false, cond, List, [], ◌∷◌, ◌++◌, map, slice_get, eqb, Option, None, Some, inl, inr, refl, ap, sym, ◌∙◌, arith}
use Rattle.std.specs.List.{range_with_len, count_by}
use Rattle.std.specs.Option.{option_and_then}
use Rattle.std.proofs.lemmas.Bool.{cases_eq, ne_eqb, eq-eqb, eqb-true, cond-true, cond-false, cases_Bool}
use Rattle.std.proofs.lemmas.List.{map-append}
use Rattle.std.proofs.lemmas.Option.{option_and_then_some}
use Rattle.std.proofs.lemmas.List.Sums.{sum_by-append}
use Rattle.m17_values.specs.declared.member.Member.{Member}
use Rattle.m17_control.specs.declared.event.Event.{Event}
use Rattle.m17_floor.specs.Acts.{joined_at}
use Rattle.m17_module.specs.declared.seat.Seat.{Seat}
use Rattle.m17_module.specs.Events.{acts_of}
use Rattle.m17_module.specs.Seats.{seat_from, is_at, is_position, if_in_by, last_join, seat_at, seats_at, members_of}
use Rattle.m17_module.proofs.ItemsMore.{range_more}
use Rattle.m17_module.proofs.Places.{filter_map-append}
use Rattle.m17_module.proofs.SeatsMore.{if_in_some, joined_has_seat, last_join_at, last_join_lt, position_is}

-- the sum of what the first n are
pub total : (ℕ → ℕ) → ℕ → ℕ
total f zero = 0
total f (suc n) = f n + total f n

total_none : (f : ℕ → ℕ) (n : ℕ) → ((i : ℕ) → i < n → f i ≡ 0) → total f n ≡ 0
unfolding total
total_none f zero h = refl
total_none f (suc n) h = omega (arith, h n (omega arith), total_none f n (λ i l. h i (omega arith)))

pub total_same : (f g : ℕ → ℕ) (n : ℕ) → ((i : ℕ) → i < n → f i ≡ g i) → total f n ≡ total g n
unfolding total
total_same f g zero h = refl
total_same f g (suc n) h = omega (arith, h n (omega arith), total_same f g n (λ i l. h i (omega arith)))

-- where one part alone counts
total_one : (f : ℕ → ℕ) (n k : ℕ) → k < n → ((i : ℕ) → i < n → i ≢ k → f i ≡ 0) → total f n ≡ f k
unfolding total
total_one f zero k l h = absurd (omega arith)
total_one f (suc n) k l h =
    elim (cases_eq n k) [
      | inl here ↦
          let rest : total f n ≡ 0 = total_none f n (λ i b. h i (omega arith) (λ e. absurd (omega arith))) in
          omega (arith, rest, ap f here)
      | inr other ↦
          let front : f n ≡ 0 = h n (omega arith) other in
          let rest : total f n ≡ f k = total_one f n k (omega arith) (λ i b ne. h i (omega arith) ne) in
          omega arith
    ]

total_add : (f g : ℕ → ℕ) (n : ℕ) → total (λ i. f i + g i) n ≡ total f n + total g n
unfolding total
total_add f g zero = refl
total_add f g (suc n) = omega (arith, total_add f g n)

total_swap : (d : ℕ → ℕ → ℕ) (m n : ℕ) → total (λ q. total (d q) n) m ≡ total (λ j. total (λ q. d q j) m) n
unfolding total
total_swap d zero n = sym (total_none (λ j. 0) n (λ i l. refl))
total_swap d (suc m) n =
    ap (λ x. total (d m) n + x) (total_swap d m n)
    ∙ sym (total_add (d m) (λ j. total (λ q. d q j) m) n)

-- 1 for one who passes
unfoldable pub counted : (Seat → Bool) → Option Seat → ℕ
counted test None = 0
counted test (Some seat) = cond (test seat) 1 0

counted_members : (test : Seat → Bool) (o : Option Seat) → count_by test (members_of (o ∷ [])) ≡ counted test o
unfolding counted
counted_members test None = refl
counted_members test (Some seat) = omega arith

members_total : (test : Seat → Bool) (f : ℕ → Option Seat) (n : ℕ) → count_by test (members_of (map f (range_with_len 0 n))) ≡ total (λ q. counted test (f q)) n
unfolding total
members_total test f zero = refl
members_total test f (suc n) =
    let at : 0 + n ≡ n = omega arith in
    let rest : List (Option Seat) = map f (range_with_len 0 n) in
    ap (λ xs. count_by test (members_of (map f xs))) (range_more 0 n)
    ∙ ap (λ m. count_by test (members_of (map f (range_with_len 0 n ++ m ∷ [])))) at
    ∙ ap (λ xs. count_by test (members_of xs)) (map-append f (range_with_len 0 n) (n ∷ []))
    ∙ ap (count_by test) (filter_map-append (λ (o : Option Seat). o) rest (f n ∷ []))
    ∙ sum_by-append (λ s. cond (test s) 1 0) (members_of rest) (members_of (f n ∷ []))
    ∙ omega (arith, counted_members test (f n), members_total test f n)

-- who is in by the Join at a position
unfoldable pub in_by : ℕ → List Event → ℕ → ℕ → Option Seat
in_by places events n j = if_in_by places events n j (seat_from (slice_get events j))

-- .. counted at its place
abbrev part : (Seat → Bool) → ℕ → List Event → ℕ → ℕ → ℕ → ℕ
part test places events n q j = cond (is_position j (last_join events n q)) (counted test (in_by places events n j)) 0

by_place : (test : Seat → Bool) (places : ℕ) (events : List Event) (n q : ℕ) (o : Option ℕ) → last_join events n q ≡ o → counted test (option_and_then (in_by places events n) o) ≡ total (λ j. cond (is_position j o) (counted test (in_by places events n j)) 0) n
unfolding counted
by_place test places events n q None e = sym (total_none _ n (λ i l. refl))
by_place test places events n q (Some k) e =
    sym (total_one (λ j. cond (eqb k j) (counted test (in_by places events n j)) 0) n k (last_join_lt events n q k e)
    (λ i l ne. cond-false (eqb k i) _ 0 (ne_eqb k i (λ same. ne (sym same))))
    ∙ cond-true (eqb k k) _ 0 (eq-eqb k k refl))

zero_both : (b : Bool) → cond b 0 0 ≡ (let z : ℕ = 0 in z)
zero_both true = refl
zero_both false = refl

-- the last Join at the place of who is in by the Join at a position
last_of : (places : ℕ) (events : List Event) (n j : ℕ) (k : Member) → joined_at places (acts_of events) k n ≡ Some j → (k.place < places) × (last_join events n k.place ≡ Some j)
unfolding seat_at in_by
last_of places events n j k joined =
    let has = joined_has_seat places events n k j joined in (
      has.below,
      option_and_then_some (in_by places events n) (last_join events n k.place) has.seat has.is
          (λ i found there.
          let parts = if_in_some places events n i (seat_from (slice_get events i)) has.seat there in
          let same : Some i ≡ Some j = sym parts.1 ∙ ap (λ m. joined_at places (acts_of events) m n) has.mine ∙ joined in
          found ∙ same),
    )

elsewhere : (events : List Event) (n q j : ℕ) (seat : Seat) → seat_from (slice_get events j) ≡ Some seat → q ≢ seat.member.place → is_position j (last_join events n q) ≡ false
elsewhere events n q j seat is ne =
    elim (cases_Bool (is_position j (last_join events n q))) [
      | inl is_so ↦
          let at : is_at q (Some seat) ≡ true = ap (is_at q) (sym is) ∙ last_join_at events n q j (position_is j (last_join events n q) is_so) in
          absurd (ne (sym (eqb-true seat.member.place q at)))
      | inr not_so ↦ not_so
    ]

by_join : (test : Seat → Bool) (places : ℕ) (events : List Event) (n j : ℕ) (o : Option Seat) → in_by places events n j ≡ o → total (λ q. cond (is_position j (last_join events n q)) (counted test o) 0) places ≡ counted test o
unfolding counted in_by
by_join test places events n j None e = total_none _ places (λ q l. zero_both (is_position j (last_join events n q)))
by_join test places events n j (Some seat) e =
    let parts = if_in_some places events n j (seat_from (slice_get events j)) seat e in
    let last = last_of places events n j seat.member parts.1 in
    total_one (λ q. cond (is_position j (last_join events n q)) (counted test (Some seat)) 0) places seat.member.place last.0
    (λ q l ne. cond-false (is_position j (last_join events n q)) _ 0 (elsewhere events n q j seat parts.0 ne))
    ∙ ap (λ o. cond (is_position j o) (counted test (Some seat)) 0) last.1
    ∙ cond-true (eqb j j) _ 0 (eq-eqb j j refl)

-- Place by place, or by the positions of their Joins.
pub members_by_joins : (test : Seat → Bool) (places : ℕ) (events : List Event) (n : ℕ) → count_by test (members_of (seats_at places events n)) ≡ total (λ j. counted test (in_by places events n j)) n
unfolding seats_at seat_at in_by
members_by_joins test places events n =
    members_total test (seat_at places events n) places
    ∙ total_same (λ q. counted test (seat_at places events n q)) (λ q. total (part test places events n q) n) places (λ q l. by_place test places events n q (last_join events n q) refl)
    ∙ total_swap (part test places events n) places n
    ∙ total_same (λ j. total (λ q. part test places events n q j) places) (λ j. counted test (in_by places events n j)) n (λ j l. by_join test places events n j (in_by places events n j) refl)
