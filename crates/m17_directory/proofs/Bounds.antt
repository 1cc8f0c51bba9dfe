-- The places of those that are known: each is one, and each is another; and how many are known and departing.
use Rattle.std.proofs.Common.{◌≡◌, ℕ, suc, ◌<◌, ◌≤◌, Bool, true, false, cond, not, eqb, nat_eq, List, [], ◌∷◌, length, map, filter, Ordering, Less, Equal, Greater, refl, ap, sym, ◌∙◌, subst, inl, inr, arith}
use Rattle.std.specs.List.{AllByRecursion, IsDistinct, list_any}
use Rattle.std.specs.Ordering.{match_ordering}
use Rattle.std.proofs.lemmas.Bool.{or_cases, eqb-true, false≢true}
use Rattle.std.proofs.lemmas.Map.Steps.{length-le_from_distinct_below}
use Rattle.m17_values.specs.declared.peer.Peer.{Peer}
use Rattle.m17_directory.specs.declared.known.Known.{Known}
use Rattle.m17_directory.specs.Entries.{Notice, peer_cmp, is_peer}
use Rattle.m17_directory.specs.Outcome.{Here, has_place, of_packet}
use Rattle.m17_directory.specs.Routed.{is_silent, row_for}
use Rattle.m17_directory.specs.Steps.{heard_now, is_other, with_row, rows_by, still_by, known_by}
use Rattle.m17_directory.proofs.Settled.{eqb_swap}

abbrev pub AreBelow : ℕ → List Known → Type 0
AreBelow places rows = AllByRecursion (λ k. k.member.place < places) rows

abbrev pub places_of : List Known → List ℕ
places_of rows = map (λ k. k.member.place) rows

abbrev pub IsFree : ℕ → List ℕ → Type 0
IsFree place xs = AllByRecursion (λ y. nat_eq place y ≡ false) xs

pub record IsSeated (places : ℕ) (rows : List Known) : Type 0 where
  pub below : AreBelow places rows
  pub apart : IsDistinct nat_eq (places_of rows)

below_named : (places q : ℕ) (rows : List Known) → AreBelow places rows → list_any (eqb q) (places_of rows) ≡ true → q < places
below_named places q [] h e = absurd (false≢true e)
below_named places q (k ∷ rows) h e = elim (or_cases (eqb q k.member.place) (list_any (eqb q) (places_of rows)) e) [
  | inl here ↦ omega (arith, eqb-true q k.member.place here, h.0)
  | inr there ↦ below_named places q rows h.1 there
]

places_length : (rows : List Known) → length (places_of rows) ≡ length rows
places_length [] = refl
places_length (k ∷ rows) = ap suc (places_length rows)

pub seated_length : (places : ℕ) (rows : List Known) → IsSeated places rows → length rows ≤ places
seated_length places rows h =
    omega (arith, places_length rows, length-le_from_distinct_below (places_of rows) places h.apart (λ q e. below_named places q rows h.below e))

below_filter : (places : ℕ) (p : Known → Bool) (rows : List Known) → AreBelow places rows → AreBelow places (filter p rows)
below_filter places p [] h = tt
below_filter places p (k ∷ rows) h = elim (p k) as (λ b. AreBelow places (cond b (k ∷ filter p rows) (filter p rows))) [ true ↦ (h.0, below_filter places p rows h.1) | false ↦ below_filter places p rows h.1 ]

free_filter : (place : ℕ) (p : Known → Bool) (rows : List Known) → IsFree place (places_of rows) → IsFree place (places_of (filter p rows))
free_filter place p [] h = tt
free_filter place p (k ∷ rows) h = elim (p k) as (λ b. IsFree place (places_of (cond b (k ∷ filter p rows) (filter p rows)))) [ true ↦ (h.0, free_filter place p rows h.1) | false ↦ free_filter place p rows h.1 ]

apart_filter : (p : Known → Bool) (rows : List Known) → IsDistinct nat_eq (places_of rows) → IsDistinct nat_eq (places_of (filter p rows))
unfolding IsDistinct
apart_filter p [] h = tt
apart_filter p (k ∷ rows) h = elim (p k) as (λ b. IsDistinct nat_eq (places_of (cond b (k ∷ filter p rows) (filter p rows)))) [ true ↦ (free_filter k.member.place p rows h.0, apart_filter p rows h.1) | false ↦ apart_filter p rows h.1 ]

pub seated_filter : (places : ℕ) (p : Known → Bool) (rows : List Known) → IsSeated places rows → IsSeated places (filter p rows)
seated_filter places p rows h = record { below = below_filter places p rows h.below; apart = apart_filter p rows h.apart }

heard_place : (x : Peer) (m : ℕ) (k : Known) → (heard_now x m k).member.place ≡ k.member.place
heard_place x m k = elim (is_peer x k.peer) as (λ b. (cond b (record k { heard_at = m }) k).member.place ≡ k.member.place) [ true ↦ refl | false ↦ refl ]

below_heard : (places : ℕ) (x : Peer) (m : ℕ) (rows : List Known) → AreBelow places rows → AreBelow places (map (heard_now x m) rows)
below_heard places x m [] h = tt
below_heard places x m (k ∷ rows) h = (subst (λ (n : ℕ). n < places) (sym (heard_place x m k)) h.0, below_heard places x m rows h.1)

places_heard : (x : Peer) (m : ℕ) (rows : List Known) → places_of (map (heard_now x m) rows) ≡ places_of rows
places_heard x m [] = refl
places_heard x m (k ∷ rows) = ap (λ n. n ∷ places_of (map (heard_now x m) rows)) (heard_place x m k) ∙ ap (λ ns. k.member.place ∷ ns) (places_heard x m rows)

pub seated_heard : (places : ℕ) (x : Peer) (m : ℕ) (rows : List Known) → IsSeated places rows → IsSeated places (map (heard_now x m) rows)
seated_heard places x m rows h = record {
  below = below_heard places x m rows h.below;
  apart = subst (λ (ns : List ℕ). IsDistinct nat_eq ns) (sym (places_heard x m rows)) h.apart;
}

pub seated_none : (places : ℕ) → IsSeated places []
unfolding IsDistinct
seated_none places = record { below = tt; apart = tt }

seated_by : (places : ℕ) (here : Here) (x : Peer) (left rows : List Known) → IsSeated places rows → IsSeated places (rows_by here x left rows)
seated_by places here x [] rows h = seated_heard places x here.moment rows h
seated_by places here x (k ∷ left) rows h = seated_filter places (is_other x) rows h

seated_still : (places : ℕ) (here : Here) (notice : Notice) (b : Bool) (rows : List Known) → IsSeated places rows → IsSeated places (cond b (filter (λ k. not (is_silent here.moment k)) rows) rows)
seated_still places here notice true rows h = seated_filter places (λ k. not (is_silent here.moment k)) rows h
seated_still places here notice false rows h = h

seated_ends : (places : ℕ) (b : Bool) (rows : List Known) → IsSeated places rows → IsSeated places (cond b [] rows)
seated_ends places true rows h = seated_none places
seated_ends places false rows h = h

-- those that are known after an entry have places
pub seated_known : (places : ℕ) (here : Here) (ends : Bool) (rows : List Known) (notice : Notice) → IsSeated places rows → IsSeated places (known_by here ends rows (still_by here rows notice) notice)
seated_known places here ends rows (Notice.Sent from at p) h =
    let still : List Known = filter (λ k. not (is_silent here.moment k)) rows in
    seated_by places here from (of_packet here from (row_for from still) p).left still (seated_filter places (λ k. not (is_silent here.moment k)) rows h)
seated_known places here ends rows (Notice.Garbled from at refusal) h = seated_filter places (λ k. not (is_silent here.moment k)) rows h
seated_known places here ends rows (Notice.Quiet at) h = seated_filter places (λ k. not (is_silent here.moment k)) rows h
seated_known places here ends rows Notice.Fault h = seated_ends places ends rows h
seated_known places here ends rows Notice.End h = seated_none places

freed_step : (place : ℕ) (k : Known) (rows : List Known) (b : Bool) → b ≡ has_place place k → IsFree place (places_of rows) → IsFree place (places_of (cond (not b) (k ∷ rows) rows))
freed_step place k rows true e h = h
freed_step place k rows false e h = (eqb_swap place k.member.place ∙ sym e, h)

-- a place that was freed
pub freed : (place : ℕ) (rows : List Known) → IsFree place (places_of (filter (λ k. not (has_place place k)) rows))
freed place [] = tt
freed place (k ∷ rows) = freed_step place k (filter (λ r. not (has_place place r)) rows) (has_place place k) refl (freed place rows)

-- one more, at a free place
free_put_step : (place : ℕ) (k r : Known) (rows more : List Known) (o : Ordering) → nat_eq place k.member.place ≡ false → nat_eq place r.member.place ≡ false → IsFree place (places_of rows) → IsFree place (places_of more)
    → IsFree place (places_of (match_ordering o (k ∷ r ∷ rows) (k ∷ rows) (r ∷ more)))
free_put_step place k r rows more Less a b h m = (a, (b, h))
free_put_step place k r rows more Equal a b h m = (a, h)
free_put_step place k r rows more Greater a b h m = (b, m)

free_put : (place : ℕ) (k : Known) (rows : List Known) → nat_eq place k.member.place ≡ false → IsFree place (places_of rows) → IsFree place (places_of (with_row k rows))
free_put place k [] a h = (a, tt)
free_put place k (r ∷ rows) a h = free_put_step place k r rows (with_row k rows) (peer_cmp k.peer r.peer) a h.0 h.1 (free_put place k rows a h.1)

below_put_step : (places : ℕ) (k r : Known) (rows more : List Known) (o : Ordering) → k.member.place < places → r.member.place < places → AreBelow places rows → AreBelow places more → AreBelow places (match_ordering o (k ∷ r ∷ rows) (k ∷ rows) (r ∷ more))
below_put_step places k r rows more Less a b h m = (a, (b, h))
below_put_step places k r rows more Equal a b h m = (a, h)
below_put_step places k r rows more Greater a b h m = (b, m)

below_put : (places : ℕ) (k : Known) (rows : List Known) → k.member.place < places → AreBelow places rows → AreBelow places (with_row k rows)
below_put places k [] a h = (a, tt)
below_put places k (r ∷ rows) a h = below_put_step places k r rows (with_row k rows) (peer_cmp k.peer r.peer) a h.0 h.1 (below_put places k rows a h.1)

apart_put_step : (k r : Known) (rows more : List Known) (o : Ordering) → IsFree k.member.place (places_of (r ∷ rows)) → IsFree r.member.place (places_of rows) → IsDistinct nat_eq (places_of rows) → IsFree r.member.place (places_of more) → IsDistinct nat_eq (places_of more)
    → IsDistinct nat_eq (places_of (match_ordering o (k ∷ r ∷ rows) (k ∷ rows) (r ∷ more)))
unfolding IsDistinct
apart_put_step k r rows more Less f a h b m = (f, (a, h))
apart_put_step k r rows more Equal f a h b m = (f.1, h)
apart_put_step k r rows more Greater f a h b m = (b, m)

apart_put : (k : Known) (rows : List Known) → IsFree k.member.place (places_of rows) → IsDistinct nat_eq (places_of rows) → IsDistinct nat_eq (places_of (with_row k rows))
unfolding IsDistinct
apart_put k [] f h = (tt, tt)
apart_put k (r ∷ rows) f h =
    apart_put_step k r rows (with_row k rows) (peer_cmp k.peer r.peer) f h.0 h.1
    (free_put r.member.place k rows (eqb_swap r.member.place k.member.place ∙ f.0) h.0)
    (apart_put k rows f.1 h.1)

pub seated_put : (places : ℕ) (k : Known) (rows : List Known) → k.member.place < places → IsFree k.member.place (places_of rows) → IsSeated places rows → IsSeated places (with_row k rows)
seated_put places k rows l f h = record { below = below_put places k rows l h.below; apart = apart_put k rows f h.apart }

-- where a place is free, fewer are known than there are places
pub fewer_than_places : (places place : ℕ) (rows : List Known) → place < places → IsSeated places rows → length (filter (λ k. not (has_place place k)) rows) < places
unfolding IsDistinct
fewer_than_places places place rows l h =
    let others : List Known = filter (λ k. not (has_place place k)) rows in
    let kept = seated_filter places (λ k. not (has_place place k)) rows h in
    let named : (q : ℕ) → list_any (eqb q) (place ∷ places_of others) ≡ true → q < places = λ q e. elim (or_cases (eqb q place) (list_any (eqb q) (places_of others)) e) [
      | inl here ↦ omega (arith, eqb-true q place here)
      | inr there ↦ below_named places q others kept.below there
    ] in
    omega (arith, places_length others, length-le_from_distinct_below (place ∷ places_of others) places (freed place rows, kept.apart) named)
