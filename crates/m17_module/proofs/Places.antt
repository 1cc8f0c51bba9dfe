-- The row of held places, and who is in there.
use Rattle.std.proofs.Common.{◌≡◌, ℕ, zero, suc, ◌+◌, ◌<◌, ◌≤◌, Bool, true, false, cond, List, [], ◌∷◌, ◌++◌, length, get_or, take, drop, set, map, not, replicate, nat_lt, Option, None, Some, refl, ap, sym, ◌∙◌, arith, length-append, length-drop}
use Rattle.std.proofs.lemmas.Bool.{cond-true, cond-false, lt-ltb, le-ltb}
use Rattle.std.proofs.lemmas.List.Sums.{length-filter}
use Rattle.std.specs.List.{filter, filter_map, flat_map, cons_option, insert, remove, count_by}
use Rattle.std.proofs.lemmas.List.{get_or-append-add, take_at, drop_at, set_split, length-take-le, take-append-drop, append_assoc, take_more, take_all, flat_map_more, drop_more, append-nil}
use Rattle.m17_values.specs.declared.member.Member.{Member}
use Rattle.m17_control.specs.declared.item.Item.{Item}
use Rattle.m17_control.specs.declared.item.Said.{Said}
use Rattle.m17_floor.specs.Acts.{is_same}
use Rattle.m17_module.specs.Items.{item_to, to_one}
use Rattle.m17_module.specs.declared.seat.Seat.{Seat}
use Rattle.m17_module.specs.Held.{held_from, to_other, with_place, without_place}
use Rattle.m17_module.specs.Seats.{members_of, seat_in, others_than}

cons_front : {Y : Type 0} (o : Option Y) (us vs ws : List Y) → ws ≡ us ++ vs → cons_option o ws ≡ cons_option o us ++ vs
cons_front None us vs ws e = e
cons_front (Some y) us vs ws e = ap (λ zs. y ∷ zs) e

pub filter_map-append : {X Y : Type 0} (f : X → Option Y) (xs ys : List X) → filter_map f (xs ++ ys) ≡ filter_map f xs ++ filter_map f ys
filter_map-append f [] ys = refl
filter_map-append f (x ∷ xs) ys = cons_front (f x) (filter_map f xs) (filter_map f ys) (filter_map f (xs ++ ys)) (filter_map-append f xs ys)

pub length-filter_map : {X Y : Type 0} (f : X → Option Y) (xs : List X) → length (filter_map f xs) ≤ length xs
length-filter_map f [] = omega arith
length-filter_map f (x ∷ xs) = elim (f x) as (λ o. length (cons_option o (filter_map f xs)) ≤ suc (length xs)) [
  | None ↦ omega (arith, length-filter_map f xs)
  | Some y ↦ omega (arith, length-filter_map f xs)
]

-- each held place is one of the places
pub held_below : (place : ℕ) (seats : List (Option Seat)) (i : ℕ) → i < length (held_from place seats) → get_or (held_from place seats) i 0 < place + length seats
held_below place [] i h = absurd (omega arith)
held_below place (None ∷ seats) i h = omega (arith, held_below (place + 1) seats i h)
held_below place (Some seat ∷ seats) zero h = omega arith
held_below place (Some seat ∷ seats) (suc i) h = omega (arith, held_below (place + 1) seats i (omega arith))

pub length-held : (place : ℕ) (seats : List (Option Seat)) → length (held_from place seats) ≤ length seats
length-held place [] = omega arith
length-held place (None ∷ seats) = omega (arith, length-held (place + 1) seats)
length-held place (Some seat ∷ seats) = omega (arith, length-held (place + 1) seats)

-- who is in at the held places are the members
held_members_from : (before seats : List (Option Seat)) (place : ℕ) → length before ≡ place → filter_map (seat_in (before ++ seats)) (held_from place seats) ≡ members_of seats
held_members_from before [] place e = refl
held_members_from before (None ∷ seats) place e =
    let more : before ++ None ∷ seats ≡ (before ++ None ∷ []) ++ seats = sym (append_assoc before (None ∷ []) seats) in
    ap (λ xs. filter_map (seat_in xs) (held_from (place + 1) seats)) more
    ∙ held_members_from (before ++ None ∷ []) seats (place + 1) (omega (arith, let none : Option Seat = None in length-append before (none ∷ [])))
held_members_from before (Some seat ∷ seats) place e =
    let more : before ++ Some seat ∷ seats ≡ (before ++ Some seat ∷ []) ++ seats = sym (append_assoc before (Some seat ∷ []) seats) in
    let here : seat_in (before ++ Some seat ∷ seats) place ≡ Some seat =
    let at : place ≡ length before + 0 = omega arith in
    ap (λ p. get_or (before ++ Some seat ∷ seats) p None) at ∙ get_or-append-add before (Some seat ∷ seats) 0 None in
    ap (λ o. cons_option o (filter_map (seat_in (before ++ Some seat ∷ seats)) (held_from (place + 1) seats))) here
    ∙ ap (λ xs. seat ∷ filter_map (seat_in xs) (held_from (place + 1) seats)) more
    ∙ ap (λ xs. seat ∷ xs) (held_members_from (before ++ Some seat ∷ []) seats (place + 1) (omega (arith, length-append before (Some seat ∷ []))))

pub held_members : (seats : List (Option Seat)) → filter_map (seat_in seats) (held_from 0 seats) ≡ members_of seats
held_members seats = held_members_from [] seats 0 refl

held-append : (place : ℕ) (xs ys : List (Option Seat)) (next : ℕ) → place + length xs ≡ next → held_from place (xs ++ ys) ≡ held_from place xs ++ held_from next ys
held-append place [] ys next e = let same : place ≡ next = omega arith in ap (λ p. held_from p ys) same
held-append place (None ∷ xs) ys next e = held-append (place + 1) xs ys next (omega arith)
held-append place (Some seat ∷ xs) ys next e = ap (λ zs. place ∷ zs) (held-append (place + 1) xs ys next (omega arith))

-- the parts of what is told place by place
pub told_more : {X : Type 0} (f : ℕ → List X) (held : List ℕ) (out0 out new : List X) (i place : ℕ) → i < length held → place ≡ get_or held i place → out ≡ out0 ++ flat_map f (take i held) → new ≡ out ++ f place → new ≡ out0 ++ flat_map f (take (i + 1) held)
told_more f held out0 out new i place within read so_far e =
    let front : take (i + 1) held ≡ take i held ++ place ∷ [] = take_more held i place within ∙ ap (λ p. take i held ++ p ∷ []) (sym read) in
    e ∙ ap (λ xs. xs ++ f place) so_far ∙ flat_map_more f out0 (take i held) place ∙ ap (λ xs. out0 ++ flat_map f xs) (sym front)

to_one_front : (what : Said) (o : Option Seat) (ys : List Seat) (zs : List Item) → zs ≡ map (item_to what) ys → to_one what o ++ zs ≡ map (item_to what) (cons_option o ys)
to_one_front what None ys zs e = e
to_one_front what (Some seat) ys zs e = ap (λ xs. item_to what seat ∷ xs) e

told_each : (what : Said) (seats : List (Option Seat)) (held : List ℕ) → flat_map (λ place. to_one what (seat_in seats place)) held ≡ map (item_to what) (filter_map (seat_in seats) held)
told_each what seats [] = refl
told_each what seats (place ∷ held) = to_one_front what (seat_in seats place) (filter_map (seat_in seats) held) _ (told_each what seats held)

pub told_all : (what : Said) (seats : List (Option Seat)) (held : List ℕ) (out0 out : List Item) (i : ℕ) → held ≡ held_from 0 seats → length held ≤ i → out ≡ out0 ++ flat_map (λ place. to_one what (seat_in seats place)) (take i held) → out ≡ out0 ++ map (item_to what) (members_of seats)
told_all what seats held out0 out i is done so_far =
    so_far ∙ ap (λ xs. out0 ++ flat_map (λ place. to_one what (seat_in seats place)) xs) (take_all i held done ∙ is)
    ∙ ap (λ xs. out0 ++ xs) (told_each what seats (held_from 0 seats) ∙ ap (map (item_to what)) (held_members seats))

to_other_front : (k : Member) (what : Said) (o : Option Seat) (ys : List Seat) (zs : List Item) → zs ≡ map (item_to what) (filter (λ seat. not (is_same seat.member k)) ys) → to_other k what o ++ zs ≡ map (item_to what) (filter (λ seat. not (is_same seat.member k)) (cons_option o ys))
to_other_front k what None ys zs e = e
to_other_front k what (Some seat) ys zs e =
    elim (is_same seat.member k) as (λ b. cond b [] (item_to what seat ∷ []) ++ zs ≡ map (item_to what) (cond (not b) (seat ∷ filter (λ (s : Seat). not (is_same s.member k)) ys) (filter (λ (s : Seat). not (is_same s.member k)) ys)))
    [ true ↦ e | false ↦ ap (λ xs. item_to what seat ∷ xs) e ]

told_others_each : (k : Member) (what : Said) (seats : List (Option Seat)) (held : List ℕ) → flat_map (λ place. to_other k what (seat_in seats place)) held ≡ map (item_to what) (filter (λ seat. not (is_same seat.member k)) (filter_map (seat_in seats) held))
told_others_each k what seats [] = refl
told_others_each k what seats (place ∷ held) = to_other_front k what (seat_in seats place) (filter_map (seat_in seats) held) _ (told_others_each k what seats held)

pub told_others : (k : Member) (what : Said) (seats : List (Option Seat)) (held : List ℕ) (out0 out : List Item) (i : ℕ) → held ≡ held_from 0 seats → length held ≤ i → out ≡ out0 ++ flat_map (λ place. to_other k what (seat_in seats place)) (take i held) → out ≡ out0 ++ map (item_to what) (others_than k seats)
told_others k what seats held out0 out i is done so_far =
    so_far ∙ ap (λ xs. out0 ++ flat_map (λ place. to_other k what (seat_in seats place)) xs) (take_all i held done ∙ is)
    ∙ ap (λ xs. out0 ++ xs) (told_others_each k what seats (held_from 0 seats) ∙ ap (λ xs. map (item_to what) (filter (λ (s : Seat). not (is_same s.member k)) xs)) (held_members seats))

pub length-to_one : (what : Said) (o : Option Seat) → length (to_one what o) ≤ 1
length-to_one what None = omega arith
length-to_one what (Some seat) = omega arith

pub length-to_other : (k : Member) (what : Said) (o : Option Seat) → length (to_other k what o) ≤ 1
length-to_other k what None = omega arith
length-to_other k what (Some seat) = elim (is_same seat.member k) as (λ b. length (cond b [] (item_to what seat ∷ [])) ≤ 1) [ true ↦ omega arith | false ↦ omega arith ]

pub place_below : (seats : List (Option Seat)) (held : List ℕ) (i : ℕ) → held ≡ held_from 0 seats → i < length held → get_or held i 0 < length seats
place_below seats held i is h =
    let within : i < length (held_from 0 seats) = omega (arith, ap length is) in
    omega (arith, held_below 0 seats i within, ap (λ xs. get_or xs i 0) is)

pub held_none : (place n : ℕ) → held_from place (replicate n None) ≡ []
held_none place zero = refl
held_none place (suc n) = held_none (place + 1) n

pub filter-append : {X : Type 0} (p : X → Bool) (xs ys : List X) → filter p (xs ++ ys) ≡ filter p xs ++ filter p ys
filter-append p [] ys = refl
filter-append p (x ∷ xs) ys = elim (p x) as (λ b. cond b (x ∷ filter p (xs ++ ys)) (filter p (xs ++ ys)) ≡ cond b (x ∷ filter p xs) (filter p xs) ++ filter p ys) [ true ↦ ap (λ zs. x ∷ zs) (filter-append p xs ys) | false ↦ filter-append p xs ys ]

filter_below : (place q : ℕ) (seats : List (Option Seat)) → place + length seats ≤ q → filter (λ other. nat_lt other q) (held_from place seats) ≡ held_from place seats
filter_below place q [] h = refl
filter_below place q (None ∷ seats) h = filter_below (place + 1) q seats (omega arith)
filter_below place q (Some seat ∷ seats) h =
    cond-true (nat_lt place q) _ _ (lt-ltb place q (omega arith)) ∙ ap (λ xs. place ∷ xs) (filter_below (place + 1) q seats (omega arith))

filter_above : (place q : ℕ) (seats : List (Option Seat)) → q ≤ place → filter (λ other. nat_lt other q) (held_from place seats) ≡ []
filter_above place q [] h = refl
filter_above place q (None ∷ seats) h = filter_above (place + 1) q seats (omega arith)
filter_above place q (Some seat ∷ seats) h =
    cond-false (nat_lt place q) _ _ (le-ltb place q (omega arith)) ∙ filter_above (place + 1) q seats (omega arith)

-- the row in two parts: below a place, and from it on
held_split : (seats : List (Option Seat)) (q : ℕ) → q < length seats → held_from 0 seats ≡ held_from 0 (take q seats) ++ held_from q (get_or seats q None ∷ drop (suc q) seats)
held_split seats q h =
    let next : q + 1 ≡ suc q = omega arith in
    ap (held_from 0) (sym (take-append-drop q seats))
    ∙ held-append 0 (take q seats) (drop q seats) q (omega (arith, length-take-le q seats (omega arith)))
    ∙ ap (λ xs. held_from 0 (take q seats) ++ held_from q xs) (drop_more seats q None h ∙ ap (λ m. get_or seats q None ∷ drop m seats) next)

held_set : (seats : List (Option Seat)) (q : ℕ) (o : Option Seat) → q < length seats → held_from 0 (set seats q o) ≡ held_from 0 (take q seats) ++ held_from q (o ∷ drop (suc q) seats)
held_set seats q o h =
    ap (held_from 0) (set_split seats q o h)
    ∙ held-append 0 (take q seats) (o ∷ drop (suc q) seats) q (omega (arith, length-take-le q seats (omega arith)))

count_below : (seats : List (Option Seat)) (q : ℕ) → q < length seats → count_by (λ other. nat_lt other q) (held_from 0 seats) ≡ length (held_from 0 (take q seats))
count_below seats q h =
    sym (length-filter (λ other. nat_lt other q) (held_from 0 seats))
    ∙ ap (λ xs. length (filter (λ other. nat_lt other q) xs)) (held_split seats q h)
    ∙ ap length
    (filter-append (λ other. nat_lt other q) (held_from 0 (take q seats)) (held_from q (get_or seats q None ∷ drop (suc q) seats))
    ∙ ap (λ xs. xs ++ filter (λ other. nat_lt other q) (held_from q (get_or seats q None ∷ drop (suc q) seats))) (filter_below 0 q (take q seats) (omega (arith, length-take-le q seats (omega arith))))
    ∙ ap (λ xs. held_from 0 (take q seats) ++ xs) (filter_above q q (get_or seats q None ∷ drop (suc q) seats) (omega arith))
    ∙ append-nil (held_from 0 (take q seats)))

-- the row with one more place
pub held_put : (seats : List (Option Seat)) (q : ℕ) (seat : Seat) → q < length seats → get_or seats q None ≡ None → with_place q (held_from 0 seats) ≡ held_from 0 (set seats q (Some seat))
held_put seats q seat h free =
    let front : List ℕ = held_from 0 (take q seats) in
    let back : List ℕ = held_from (q + 1) (drop (suc q) seats) in
    let whole : held_from 0 seats ≡ front ++ back = held_split seats q h ∙ ap (λ o. front ++ held_from q (o ∷ drop (suc q) seats)) free in
    ap (λ n. insert (held_from 0 seats) n q) (count_below seats q h)
    ∙ ap (λ xs. insert xs (length front) q) whole
    ∙ ap (λ xs. xs ++ q ∷ drop (length front) (front ++ back)) (take_at front back (length front) refl)
    ∙ ap (λ xs. front ++ q ∷ xs) (drop_at front back (length front) refl)
    ∙ sym (held_set seats q (Some seat) h)

pub held_short : (seats : List (Option Seat)) (q : ℕ) → q < length seats → get_or seats q None ≡ None → length (held_from 0 seats) < length seats
held_short seats q h free =
    let front : List ℕ = held_from 0 (take q seats) in
    let back : List ℕ = held_from (q + 1) (drop (suc q) seats) in
    let whole : held_from 0 seats ≡ front ++ back = held_split seats q h ∙ ap (λ o. front ++ held_from q (o ∷ drop (suc q) seats)) free in
    omega (arith, ap length whole, length-append front back, length-held 0 (take q seats), length-held (q + 1) (drop (suc q) seats), length-take-le q seats (omega arith), length-drop (suc q) seats)

-- the row with one place less
held_around : (seats : List (Option Seat)) (q : ℕ) (seat : Seat) → q < length seats → get_or seats q None ≡ Some seat → held_from 0 seats ≡ held_from 0 (take q seats) ++ q ∷ held_from (q + 1) (drop (suc q) seats)
held_around seats q seat h is = held_split seats q h ∙ ap (λ o. held_from 0 (take q seats) ++ held_from q (o ∷ drop (suc q) seats)) is

pub held_drop : (seats : List (Option Seat)) (q : ℕ) (seat : Seat) → q < length seats → get_or seats q None ≡ Some seat → without_place q (held_from 0 seats) ≡ held_from 0 (set seats q None)
held_drop seats q seat h is =
    let front : List ℕ = held_from 0 (take q seats) in
    let back : List ℕ = held_from (q + 1) (drop (suc q) seats) in
    let longer : length (front ++ q ∷ []) ≡ suc (length front) = omega (arith, length-append front (q ∷ [])) in
    ap (λ n. remove (held_from 0 seats) n) (count_below seats q h)
    ∙ ap (λ xs. remove xs (length front)) (held_around seats q seat h is)
    ∙ ap (λ xs. xs ++ drop (suc (length front)) (front ++ q ∷ back)) (take_at front (q ∷ back) (length front) refl)
    ∙ ap (λ xs. front ++ drop (suc (length front)) xs) (sym (append_assoc front (q ∷ []) back))
    ∙ ap (λ xs. front ++ xs) (drop_at (front ++ q ∷ []) back (suc (length front)) longer)
    ∙ sym (held_set seats q None h)

pub held_within : (seats : List (Option Seat)) (q : ℕ) (seat : Seat) → q < length seats → get_or seats q None ≡ Some seat → count_by (λ other. nat_lt other q) (held_from 0 seats) < length (held_from 0 seats)
held_within seats q seat h is =
    omega (arith, count_below seats q h, ap length (held_around seats q seat h is), length-append (held_from 0 (take q seats)) (q ∷ held_from (q + 1) (drop (suc q) seats)))

pub held_over : (seats : List (Option Seat)) (q : ℕ) (old seat : Seat) → q < length seats → get_or seats q None ≡ Some old → held_from 0 seats ≡ held_from 0 (set seats q (Some seat))
held_over seats q old seat h is = held_around seats q old h is ∙ sym (held_set seats q (Some seat) h)

-- what the code keeps beside the seats stays in order
pub in_order_put : (seats : List (Option Seat)) (held held' : List ℕ) (q : ℕ) (seat : Seat) → held ≡ held_from 0 seats → held' ≡ with_place q held → q < length seats → get_or seats q None ≡ None → held' ≡ held_from 0 (set seats q (Some seat))
in_order_put seats held held' q seat is put h free = put ∙ ap (with_place q) is ∙ held_put seats q seat h free

pub in_order_drop : (seats : List (Option Seat)) (held held' : List ℕ) (q : ℕ) (seat : Seat) → held ≡ held_from 0 seats → held' ≡ without_place q held → q < length seats → get_or seats q None ≡ Some seat → held' ≡ held_from 0 (set seats q None)
in_order_drop seats held held' q seat is put h mine = put ∙ ap (without_place q) is ∙ held_drop seats q seat h mine
