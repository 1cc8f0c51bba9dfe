-- Offers, one after another.
use Rattle.std.proofs.Common.{◌≡◌, ℕ, zero, suc, ◌+◌, ◌-◌, ◌^◌, ◌<◌, ◌≤◌, min, true, false, not, ◌&&◌, cond, List, [], ◌∷◌, ◌++◌, map, length, take, slice_get, Option, None, Some, IfSome, inl, inr, refl, ap, sym, subst, ◌∙◌, arith}
use Rattle.std.specs.Prelude.{◌==◌, filter, vec_capacity, IsSomeAnd}
use Rattle.std.specs.Option.{option_map}
use Rattle.std.specs.List.{All, Contains}
use Rattle.std.proofs.lemmas.List.Elements.{Contains-push}
use Rattle.std.proofs.lemmas.Bool.{cases_lt, true≢false, eq-eqb}
use Rattle.std.proofs.lemmas.Option.{same_Some}
use Rattle.std.proofs.lemmas.List.{map-append, length-append, take-append-le}
use Rattle.std.proofs.lemmas.List.Elements.{filter-append}
use Rattle.std.proofs.lemmas.List.Sums.{sum_by-append}
use Rattle.m17_control.specs.declared.item.Item.{Item}
use Rattle.m17_lane.specs.Ends.{PushEnd}
use Rattle.m17_lane.specs.Rows.{grows, grow_each, push_each, only, nowhere}
use Rattle.m17_lane.specs.RowsLaws.{RowsGrow}
use Rattle.m17_worker.specs.declared.offers.Offered.{Offered}
use Rattle.m17_worker.specs.declared.offers.Offered.TheVariants.{Queued, Missed}
use Rattle.m17_worker.specs.declared.offers.LaneOffers.{LaneOffers}
use Rattle.m17_worker.specs.Offers.{Try, try_of, may_be_missed, queued_for, missed_for, count_missed, counted_on, IsLeftOut, AreTried, AreOffered, IsQueue}
use Rattle.m17_worker.proofs.Lists.{slice_get_before, slice_get_behind, take_behind}

queued_one : (item : Item) (place : ℕ) → queued_for (try_of item Queued ∷ []) place ≡ only item.member.place item place
queued_one item place =
    elim (place == item.member.place)
    as (λ b. map (λ (t : Try). t.item) (cond b (try_of item Queued ∷ []) []) ≡ cond b (item ∷ []) [])
    [ true ↦ refl | false ↦ refl ]

missed_one : (item : Item) (place : ℕ) → missed_for (try_of item Missed ∷ []) place ≡ only item.member.place item place
missed_one item place =
    elim (place == item.member.place)
    as (λ b. map (λ (t : Try). t.item) (cond b (try_of item Missed ∷ []) []) ≡ cond b (item ∷ []) [])
    [ true ↦ refl | false ↦ refl ]

-- one item and what became of it at its queue
pub row_took : (item : Item) (before after : List (PushEnd Item)) → RowsGrow Item
    → after ≡ push_each (only item.member.place item) 0 before
    → after ≡ grow_each (queued_for (try_of item Queued ∷ [])) (missed_for (try_of item Queued ∷ [])) 0 before
row_took item before after law is =
    is ∙ sym (law.pushed_alone (only item.member.place item) 0 before)
    ∙ law.same (only item.member.place item) nowhere (queued_for (try_of item Queued ∷ [])) (missed_for (try_of item Queued ∷ []))
    before (λ i lt. sym (queued_one item i)) (λ i lt. refl)

pub row_tried : (item : Item) (before after : List (PushEnd Item)) → RowsGrow Item
    → after ≡ grow_each (only item.member.place item) nowhere 0 before
    → after ≡ grow_each (queued_for (try_of item Queued ∷ [])) (missed_for (try_of item Queued ∷ [])) 0 before
row_tried item before after law is =
    is ∙ law.same (only item.member.place item) nowhere (queued_for (try_of item Queued ∷ [])) (missed_for (try_of item Queued ∷ []))
    before (λ i lt. sym (queued_one item i)) (λ i lt. refl)

pub row_left : (item : Item) (before after : List (PushEnd Item)) → RowsGrow Item
    → after ≡ grow_each nowhere (only item.member.place item) 0 before
    → after ≡ grow_each (queued_for (try_of item Missed ∷ [])) (missed_for (try_of item Missed ∷ [])) 0 before
row_left item before after law is =
    is ∙ law.same nowhere (only item.member.place item) (queued_for (try_of item Missed ∷ [])) (missed_for (try_of item Missed ∷ []))
    before (λ i lt. refl) (λ i lt. sym (missed_one item i))

pub full_one : (o : Option (PushEnd Item)) → IsSomeAnd o IsQueue → IfSome o (λ q. q.producers ≡ 1 → q.capacity ≤ length q.pushed)
    → IsSomeAnd o (λ q. 64 ≤ length q.pushed)
full_one None fit full = absurd fit
full_one (Some q) fit full = let h : q.capacity ≤ length q.pushed = full fit.0 in omega (arith, h, fit.1)

full_plus : (o : Option (PushEnd Item)) → IsSomeAnd o (λ q. 64 ≤ length q.pushed) → IsSomeAnd o (λ q. 64 ≤ length q.pushed + 0)
full_plus None full = absurd full
full_plus (Some q) full = omega (arith, full)

-- one item that was left out
left_one : (before : LaneOffers) (item : Item) → IsLeftOut before [] item
    → (n : ℕ) (t : Try) → slice_get (try_of item Missed ∷ []) n ≡ Some t → t.queued ≡ false
    → IsLeftOut before (take n (try_of item Missed ∷ [])) t.item
left_one before item out zero t at off =
    let is : try_of item Missed ≡ t = same_Some _ _ at in
    let P : Try → Type 0 = λ u. IsLeftOut before [] u.item in
    subst P is out
left_one before item out (suc n) t at off = absurd (cc at)

-- one item that was queued
none_left : (before : LaneOffers) (item : Item) (n : ℕ) (t : Try) → slice_get (try_of item Queued ∷ []) n ≡ Some t → t.queued ≡ false
    → IsLeftOut before (take n (try_of item Queued ∷ [])) t.item
none_left before item zero t at off =
    let is : try_of item Queued ≡ t = same_Some _ _ at in let yes : true ≡ t.queued = ap (λ (u : Try). u.queued) is in absurd (true≢false (yes ∙ off))
none_left before item (suc n) t at off = absurd (cc at)

left_out_one : (before : LaneOffers) (item : Item) (answer : Offered) → (answer ≡ Missed → IsLeftOut before [] item)
    → (n : ℕ) (t : Try) → slice_get (try_of item answer ∷ []) n ≡ Some t → t.queued ≡ false
    → IsLeftOut before (take n (try_of item answer ∷ [])) t.item
left_out_one before item Queued out = none_left before item
left_out_one before item Missed out = left_one before item (out refl)

counted_one : (item : Item) (answer : Offered) (n m : ℕ) → (answer ≡ Queued → m ≡ n) → (answer ≡ Missed → m ≡ min (n + 1) (2 ^ 64 - 1))
    → m ≡ counted_on n (count_missed (try_of item answer ∷ []))
counted_one item Queued n m same more = same refl
counted_one item Missed n m same more = more refl

counted_both : (n x y : ℕ) → counted_on (counted_on n x) y ≡ counted_on n (x + y)
counted_both n zero y = let e : y ≡ 0 + y = omega arith in ap (counted_on n) e
counted_both n (suc x) zero = let e : suc x ≡ suc x + 0 = omega arith in ap (counted_on n) e
counted_both n (suc x) (suc y) =
    let e : suc (x + suc y) ≡ suc x + suc y = omega arith in
    let d : min (min (n + suc x) (2 ^ 64 - 1) + suc y) (2 ^ 64 - 1) ≡ min (n + suc (x + suc y)) (2 ^ 64 - 1) = omega arith in
    d ∙ ap (counted_on n) e

pub one_tried : (item : Item) (answer : Offered) (before after : LaneOffers)
    → after.queues.items ≡ grow_each (queued_for (try_of item answer ∷ [])) (missed_for (try_of item answer ∷ [])) 0 before.queues.items
    → (answer ≡ Missed → IsSomeAnd (slice_get before.queues.items item.member.place) (λ q. 64 ≤ length q.pushed))
    → (answer ≡ Missed → may_be_missed item.body ≡ true) → (answer ≡ Missed → before.patient ≡ false)
    → (answer ≡ Queued → after.missed ≡ before.missed) → (answer ≡ Missed → after.missed ≡ min (before.missed + 1) (2 ^ 64 - 1))
    → after.patient ≡ before.patient → vec_capacity after.queues ≡ vec_capacity before.queues
    → AreTried (try_of item answer ∷ []) before after
one_tried item answer before after is full may impatient same more patient room = record {
  queues = is;
  left_out = left_out_one before item answer (λ e. record { may_be = may e; impatient = impatient e; full = full_plus _ (full e) });
  missed = counted_one item answer before.missed after.missed same more;
  patient = patient;
  room = room;
}

-- a queue that is there is below the number of queues
pub within : (o : Option (PushEnd Item)) (qs : List (PushEnd Item)) (n : ℕ) → slice_get qs n ≡ o → IsSomeAnd o IsQueue → n < length qs
within o [] n e fit = let P : Option (PushEnd Item) → Type 0 = λ v. IsSomeAnd v IsQueue in absurd (subst P (sym e) fit)
within o (q ∷ qs) zero e fit = omega arith
within o (q ∷ qs) (suc n) e fit = let h : n < length qs = within o qs n e fit in omega (arith, h)

-- two lots, one after the other
queued_both : (ts us : List Try) (place : ℕ) → queued_for (ts ++ us) place ≡ queued_for ts place ++ queued_for us place
queued_both ts us place =
    ap (map (λ (t : Try). t.item)) (filter-append (λ (t : Try). t.queued && (place == t.item.member.place)) ts us)
    ∙ map-append (λ (t : Try). t.item) (filter (λ (t : Try). t.queued && (place == t.item.member.place)) ts) (filter (λ (t : Try). t.queued && (place == t.item.member.place)) us)

missed_both : (ts us : List Try) (place : ℕ) → missed_for (ts ++ us) place ≡ missed_for ts place ++ missed_for us place
missed_both ts us place =
    ap (map (λ (t : Try). t.item)) (filter-append (λ (t : Try). not t.queued && (place == t.item.member.place)) ts us)
    ∙ map-append (λ (t : Try). t.item) (filter (λ (t : Try). not t.queued && (place == t.item.member.place)) ts) (filter (λ (t : Try). not t.queued && (place == t.item.member.place)) us)

full_behind : (o : Option (PushEnd Item)) (xs ys zs : List Item)
    → IsSomeAnd (option_map (λ p. grows p xs ys) o) (λ q. 64 ≤ length q.pushed + length zs)
    → IsSomeAnd o (λ q. 64 ≤ length q.pushed + length (xs ++ zs))
full_behind None xs ys zs full = absurd full
full_behind (Some q) xs ys zs full = omega (arith, full, length-append q.pushed xs, length-append xs zs)

left_behind : (ts earlier : List Try) (a b : LaneOffers) (item : Item) → RowsGrow Item → AreTried ts a b
    → IsLeftOut b earlier item → IsLeftOut a (ts ++ earlier) item
left_behind ts earlier a b item law tried out =
    let place : ℕ = item.member.place in
    let is : slice_get b.queues.items place ≡ option_map (λ p. grows p (queued_for ts place) (missed_for ts place)) (slice_get a.queues.items place) =
    ap (λ qs. slice_get qs place) tried.queues ∙ law.at (queued_for ts) (missed_for ts) a.queues.items place in
    let P : Option (PushEnd Item) → Type 0 = λ o. IsSomeAnd o (λ q. 64 ≤ length q.pushed + length (queued_for earlier place)) in
    let Q : List Item → Type 0 = λ l. IsSomeAnd (slice_get a.queues.items place) (λ q. 64 ≤ length q.pushed + length l) in
    record {
      may_be = out.may_be;
      impatient = sym tried.patient ∙ out.impatient;
      full = subst Q (sym (queued_both ts earlier place))
          (full_behind (slice_get a.queues.items place) (queued_for ts place) (missed_for ts place) (queued_for earlier place) (subst P is out.full));
    }

left_then : (ts us : List Try) (a b c : LaneOffers) → RowsGrow Item → AreTried ts a b → AreTried us b c
    → (n : ℕ) (t : Try) → slice_get (ts ++ us) n ≡ Some t → t.queued ≡ false → IsLeftOut a (take n (ts ++ us)) t.item
left_then ts us a b c law first second n t at off =
    let P : List Try → Type 0 = λ l. IsLeftOut a l t.item in
    elim (cases_lt n (length ts)) as (λ _. IsLeftOut a (take n (ts ++ us)) t.item) [
      | inl lt ↦ subst P (sym (take-append-le n ts us (omega (arith, lt)))) (first.left_out n t (sym (slice_get_before ts us n lt) ∙ at) off)
      | inr ge ↦
          let is : n ≡ length ts + (n - length ts) = omega (arith, ge) in
          subst P (sym (take_behind ts us n (n - length ts) is))
          (left_behind ts (take (n - length ts) us) a b t.item law first
          (second.left_out (n - length ts) t (sym (slice_get_behind ts us n (n - length ts) is) ∙ at) off))
    ]

tried_then : (ts us : List Try) (a b c : LaneOffers) → RowsGrow Item → AreTried ts a b → AreTried us b c → AreTried (ts ++ us) a c
tried_then ts us a b c law first second = record {
  queues = second.queues
      ∙ ap (grow_each (queued_for us) (missed_for us) 0) first.queues
      ∙ law.twice (queued_for ts) (missed_for ts) (queued_for us) (missed_for us) 0 a.queues.items
      ∙ law.same (λ i. queued_for ts i ++ queued_for us i) (λ i. missed_for ts i ++ missed_for us i)
      (queued_for (ts ++ us)) (missed_for (ts ++ us)) a.queues.items
      (λ i lt. sym (queued_both ts us i)) (λ i lt. sym (missed_both ts us i));
  left_out = left_then ts us a b c law first second;
  missed =
      let e : count_missed (ts ++ us) ≡ count_missed ts + count_missed us = sum_by-append (λ (t : Try). cond (not t.queued) 1 0) ts us in
      second.missed ∙ ap (λ n. counted_on n (count_missed us)) first.missed
      ∙ counted_both a.missed (count_missed ts) (count_missed us) ∙ ap (counted_on a.missed) (sym e);
  patient = second.patient ∙ first.patient;
  room = second.room ∙ first.room;
}

pub offered_none : (a : LaneOffers) → RowsGrow Item → AreOffered [] a a
offered_none a law = record {
  tries = [];
  of_all = refl;
  tried = record {
    queues = sym (law.none (queued_for []) (missed_for []) 0 a.queues.items (λ i. refl) (λ i. refl));
    left_out = λ n t at off. absurd (cc at);
    missed = refl;
    patient = refl;
    room = refl;
  };
}

pub offered_then : (xs ys : List Item) (a b c : LaneOffers) → RowsGrow Item → AreOffered xs a b → AreOffered ys b c → AreOffered (xs ++ ys) a c
offered_then xs ys a b c law first second = record {
  tries = first.tries ++ second.tries;
  of_all = map-append (λ (t : Try). t.item) first.tries second.tries ∙ (λ i. first.of_all i ++ second.of_all i);
  tried = tried_then first.tries second.tries a b c law first.tried second.tried;
}

-- the queues stay queues, and as many
queues_grow : (f g : ℕ → List Item) (k : ℕ) (qs : List (PushEnd Item)) → All IsQueue qs → All IsQueue (grow_each f g k qs)
queues_grow f g k [] h j d lt = absurd (omega arith)
queues_grow f g k (q ∷ qs) h zero d lt = h zero d (omega arith)
queues_grow f g k (q ∷ qs) h (suc j) d lt = queues_grow f g (suc k) qs (λ i e l. h (suc i) e (omega arith)) j d (omega arith)

pub queues_stay : (xs : List Item) (a b : LaneOffers) → RowsGrow Item → AreOffered xs a b → All IsQueue a.queues.items → All IsQueue b.queues.items
queues_stay xs a b law h all =
    let P : List (PushEnd Item) → Type 0 = All IsQueue in
    subst P (sym h.tried.queues) (queues_grow (queued_for h.tries) (missed_for h.tries) 0 a.queues.items all)

pub as_many : (xs : List Item) (a b : LaneOffers) → RowsGrow Item → AreOffered xs a b → length b.queues.items ≡ length a.queues.items
as_many xs a b law h =
    ap length h.tried.queues ∙ law.count (queued_for h.tries) (missed_for h.tries) 0 a.queues.items

pub queue_at : (qs : List (PushEnd Item)) (n : ℕ) → All IsQueue qs → n < length qs → IsSomeAnd (slice_get qs n) IsQueue
queue_at [] n all lt = absurd (omega arith)
queue_at (q ∷ qs) zero all lt = all zero q (omega arith)
queue_at (q ∷ qs) (suc n) all lt = queue_at qs n (λ k d l. all (suc k) d (omega arith)) (omega arith)

-- a Bye stands in its queue once it was offered
not_missed : (item : Item) (answer : Offered) (a b : LaneOffers) → may_be_missed item.body ≡ false → AreTried (try_of item answer ∷ []) a b → answer ≡ Queued
not_missed item Queued a b waits tried = refl
not_missed item Missed a b waits tried =
    let out = tried.left_out 0 (try_of item Missed) refl refl in
    absurd (true≢false (sym out.may_be ∙ waits))

grown_contains : (o : Option (PushEnd Item)) (xs ys : List Item) (item : Item) → xs ≡ item ∷ [] → IsSomeAnd o IsQueue
    → IsSomeAnd (option_map (λ p. grows p xs ys) o) (λ q. Contains q.pushed item)
grown_contains None xs ys item is fit = absurd fit
grown_contains (Some q) xs ys item is fit =
    let P : List Item → Type 0 = λ l. Contains (q.pushed ++ l) item in subst P (sym is) (Contains-push q.pushed item)

only_there : (item : Item) (place : ℕ) → only place item place ≡ item ∷ []
only_there item place = ap (λ b. cond b (item ∷ []) []) (eq-eqb place place refl)

pub stands_in_queue : (item : Item) (answer : Offered) (a b : LaneOffers) → RowsGrow Item → may_be_missed item.body ≡ false
    → IsSomeAnd (slice_get a.queues.items item.member.place) IsQueue → AreTried (try_of item answer ∷ []) a b
    → IsSomeAnd (slice_get b.queues.items item.member.place) (λ q. Contains q.pushed item)
stands_in_queue item answer a b law waits fit tried =
    let place : ℕ = item.member.place in
    let ts : List Try = try_of item answer ∷ [] in
    let is : slice_get b.queues.items place ≡ option_map (λ p. grows p (queued_for ts place) (missed_for ts place)) (slice_get a.queues.items place) =
    ap (λ qs. slice_get qs place) tried.queues ∙ law.at (queued_for ts) (missed_for ts) a.queues.items place in
    let queued : queued_for ts place ≡ item ∷ [] =
    ap (λ (r : Offered). queued_for (try_of item r ∷ []) place) (not_missed item answer a b waits tried) ∙ queued_one item place ∙ only_there item place in
    let P : Option (PushEnd Item) → Type 0 = λ o. IsSomeAnd o (λ q. Contains q.pushed item) in
    subst P (sym is) (grown_contains (slice_get a.queues.items place) (queued_for ts place) (missed_for ts place) item queued fit)
