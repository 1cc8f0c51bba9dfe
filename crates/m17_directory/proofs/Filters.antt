-- Filtered rows so far, in a loop: how many there are, and what is posted of them.
use Rattle.std.proofs.Common.{◌≡◌, ℕ, zero, suc, ◌+◌, ◌<◌, ◌≤◌, Bool, true, false, not, cond, List, [], ◌∷◌, ◌++◌, length, map, filter, ◌-◌, get_or, take, refl, ap, sym, ◌∙◌, arith, length-append, append_assoc, append-nil, Option, None, Some, IfSome, Ordering, Less, Equal, Greater}
use Rattle.std.specs.List.{range_with_len}
use Rattle.std.specs.Ordering.{match_ordering}
use Rattle.std.proofs.lemmas.List.Filters.{length-filter_both}
use Rattle.m17_directory.specs.Entries.{peer_cmp}
use Rattle.std.proofs.lemmas.Bool.{cond-true}
use Rattle.std.proofs.lemmas.Option.{same_Some, none-some}
use Rattle.std.proofs.lemmas.List.{length-map, map-append}
use Rattle.m17_lists.proofs.Ranges.{range_ends_in_its_last}
use Rattle.m17_directory.specs.declared.dispatch.Dispatch.{Dispatch}
use Rattle.m17_directory.specs.declared.known.Departed.{Departed}
use Rattle.m17_directory.specs.declared.known.Known.{Known}
use Rattle.m17_directory.specs.StandsFor.{with_left, departed_of}
use Rattle.m17_directory.specs.Steps.{Lists, with_row}

pub filter_le : {X : Type 0} (p : X → Bool) (xs : List X) → length (filter p xs) ≤ length xs
filter_le p [] = omega arith
filter_le p (x ∷ xs) = elim (p x) as (λ b. length (cond b (x ∷ filter p xs) (filter p xs)) ≤ suc (length xs)) [ true ↦ omega (arith, filter_le p xs) | false ↦ omega (arith, filter_le p xs) ]

take_le : {X : Type 0} (p : X → Bool) (i : ℕ) (xs : List X) → length (filter p (take i xs)) ≤ i
take_le p zero xs = omega arith
take_le p (suc i) [] = omega arith
take_le p (suc i) (x ∷ xs) = elim (p x) as (λ b. length (cond b (x ∷ filter p (take i xs)) (filter p (take i xs))) ≤ suc i) [ true ↦ omega (arith, take_le p i xs) | false ↦ omega (arith, take_le p i xs) ]

-- one that passes is not counted yet
one_less : (p : Known → Bool) (rows : List Known) (i : ℕ) (k : Known) → i < length rows → k ≡ get_or rows i k → p k ≡ true → length (filter p (take i rows)) < length (filter p rows)
one_less p [] i k l e t = absurd (omega arith)
one_less p (r ∷ rows) zero k l e t =
    let here : p r ≡ true = ap p (sym e) ∙ t in
    let all : length (filter p (r ∷ rows)) ≡ suc (length (filter p rows)) = ap length (cond-true (p r) (r ∷ filter p rows) (filter p rows) here) in
    omega arith
one_less p (r ∷ rows) (suc i) k l e t =
    let more : length (filter p (take i rows)) < length (filter p rows) = one_less p rows i k (omega arith) e t in
    elim (p r) as (λ b. length (cond b (r ∷ filter p (take i rows)) (filter p (take i rows))) < length (cond b (r ∷ filter p rows) (filter p rows))) [ true ↦ omega arith | false ↦ more ]

pub posted_less : (f : Known → Dispatch) (p : Known → Bool) (rows : List Known) (i : ℕ) (k : Known) (old new : List Dispatch) (room : ℕ) → i < length rows → k ≡ get_or rows i k → p k ≡ true → new ≡ old ++ map f (filter p (take i rows)) → length old + length (filter p rows) ≤ room → length new < room
posted_less f p rows i k old new room l e t told few =
    omega (arith, ap length told, length-append old (map f (filter p (take i rows))), length-map (filter p (take i rows)) f, one_less p rows i k l e t)

pub departing_less : (p : Known → Bool) (rows : List Known) (i : ℕ) (old new : List Departed) (room : ℕ) → i < length rows → new ≡ with_left old (filter p (take i rows)) → length rows + length old ≤ room → length new < room
departing_less p rows i old new room l left few =
    omega (arith, ap length left, length-append old (map departed_of (filter p (take i rows))), length-map (filter p (take i rows)) departed_of, take_le p i rows)

-- the letters so far
filter_end : {X : Type 0} (p : X → Bool) (xs : List X) (y : X) → filter p (xs ++ y ∷ []) ≡ filter p xs ++ cond (p y) (y ∷ []) []
filter_end p [] y = refl
filter_end p (x ∷ xs) y = elim (p x) as (λ b. cond b (x ∷ filter p (xs ++ y ∷ [])) (filter p (xs ++ y ∷ [])) ≡ cond b (x ∷ filter p xs) (filter p xs) ++ cond (p y) (y ∷ []) []) [ true ↦ ap (λ zs. x ∷ zs) (filter_end p xs y) | false ↦ filter_end p xs y ]

map_cond : {X Y : Type 0} (f : X → Y) (b : Bool) (y : X) → map f (cond b (y ∷ []) []) ≡ cond b (f y ∷ []) []
map_cond f true y = refl
map_cond f false y = refl

told_end : {X Y : Type 0} (f : X → Y) (p : X → Bool) (xs : List X) (y : X) (old post new : List Y) → post ≡ old ++ map f (filter p xs) → new ≡ post ++ cond (p y) (f y ∷ []) [] → new ≡ old ++ map f (filter p (xs ++ y ∷ []))
told_end f p xs y old post new before e =
    e
    ∙ ap (λ zs. zs ++ cond (p y) (f y ∷ []) []) before
    ∙ append_assoc old (map f (filter p xs)) (cond (p y) (f y ∷ []) [])
    ∙ ap (λ zs. old ++ zs) (sym (ap (map f) (filter_end p xs y) ∙ map-append f (filter p xs) (cond (p y) (y ∷ []) []) ∙ ap (λ zs. map f (filter p xs) ++ zs) (map_cond f (p y) y)))

pub told_more : {Y : Type 0} (f : ℕ → Y) (p : ℕ → Bool) (old post new : List Y) (byte : ℕ) → 65 ≤ byte → post ≡ old ++ map f (filter p (range_with_len 65 (byte - 65))) → new ≡ post ++ cond (p byte) (f byte ∷ []) [] → new ≡ old ++ map f (filter p (range_with_len 65 (byte + 1 - 65)))
told_more f p old post new byte l before e =
    let a : 65 + (byte - 65) ≡ byte = omega arith in
    let b : suc (byte - 65) ≡ byte + 1 - 65 = omega arith in
    told_end f p (range_with_len 65 (byte - 65)) byte old post new before e
    ∙ ap (λ xs. old ++ map f (filter p xs)) (ap (λ i. range_with_len 65 (byte - 65) ++ i ∷ []) (sym a) ∙ sym (range_ends_in_its_last 65 (byte - 65)) ∙ ap (range_with_len 65) b)

cond_few : {Y : Type 0} (b : Bool) (y : Y) → length (cond b (y ∷ []) []) ≤ 1
cond_few true y = omega arith
cond_few false y = omega arith

pub told_few : {Y : Type 0} (b : Bool) (y : Y) (post new : List Y) → new ≡ post ++ cond b (y ∷ []) [] → length new ≤ length post + 1
told_few b y post new e = omega (arith, ap length e, length-append post (cond b (y ∷ []) []), cond_few b y)

pub letter_is : (o : Option ℕ) (letter byte : ℕ) → o ≡ Some letter → IfSome o (λ l. l ≡ byte) → letter ≡ byte
letter_is None letter byte e h = absurd (none-some letter e)
letter_is (Some l) letter byte e h = sym (same_Some l letter e) ∙ h

pub all_pass : {X : Type 0} (xs : List X) → filter (λ x. true) xs ≡ xs
all_pass [] = refl
all_pass (x ∷ xs) = ap (λ ys. x ∷ ys) (all_pass xs)

pub none_pass : {X : Type 0} (xs : List X) → filter (λ x. not true) xs ≡ []
none_pass [] = refl
none_pass (x ∷ xs) = none_pass xs

keep_parts : {X : Type 0} (b : Bool) (x : X) (ys : List X) → cond b (x ∷ ys) ys ≡ [] → (b ≡ false) × (ys ≡ [])
keep_parts true x ys e = cc
keep_parts false x ys e = (refl, e)

pub keep_all : {X : Type 0} (p : X → Bool) (xs : List X) → filter p xs ≡ [] → filter (λ x. not (p x)) xs ≡ xs
keep_all p [] e = refl
keep_all p (x ∷ xs) e =
    let parts = keep_parts (p x) x (filter p xs) e in
    ap (λ b. cond (not b) (x ∷ filter (λ y. not (p y)) xs) (filter (λ y. not (p y)) xs)) parts.0
    ∙ ap (λ ys. x ∷ ys) (keep_all p xs parts.1)

-- there is room for all that leave
pub room_for : {X Y : Type 0} (p : X → Bool) (xs : List X) (post : List Y) → length xs ≤ 256 → post ≡ [] → length post + length (filter p xs) ≤ 300
room_for p xs post few none = omega (arith, filter_le p xs, ap length none)

pub few_told : {X Y : Type 0} (f : X → Y) (p : X → Bool) (xs : List X) (post new : List Y) → length xs ≤ 256 → post ≡ [] → new ≡ post ++ map f (filter p xs) → length new ≤ 256
few_told f p xs post new few none e = omega (arith, filter_le p xs, ap length none, ap length e, length-append post (map f (filter p xs)), length-map (filter p xs) f)

pub left_none : (p : Known → Bool) (old : Lists) → filter p old.known ≡ [] → old ≡ record {
  known = filter (λ k. not (p k)) old.known;
  asked = old.asked;
  departing = with_left old.departing (filter p old.known);
}
left_none p old e =
    let lists : List Known → List Departed → Lists = λ ks ds. record { known = ks; asked = old.asked; departing = ds } in
    ap (λ ks. lists ks old.departing) (sym (keep_all p old.known e))
    ∙ ap (lists (filter (λ k. not (p k)) old.known)) (sym (ap (with_left old.departing) e ∙ append-nil old.departing))

put_length : (k r : Known) (rows more : List Known) (o : Ordering) → length more ≤ suc (length rows) → length (match_ordering o (k ∷ r ∷ rows) (k ∷ rows) (r ∷ more)) ≤ suc (suc (length rows))
put_length k r rows more Less h = omega arith
put_length k r rows more Equal h = omega arith
put_length k r rows more Greater h = omega arith

pub with_row_length : (k : Known) (rows : List Known) → length (with_row k rows) ≤ suc (length rows)
with_row_length k [] = omega arith
with_row_length k (r ∷ rows) = put_length k r rows (with_row k rows) (peer_cmp k.peer r.peer) (with_row_length k rows)

-- who leaves departs: together there are as many
pub left_together : (p : Known → Bool) (old : Lists) → length (filter (λ k. not (p k)) old.known) + length (with_left old.departing (filter p old.known)) ≡ length old.known + length old.departing
left_together p old =
    omega (arith, length-filter_both p (λ k. not (p k)) (λ k. refl) old.known, length-append old.departing (map departed_of (filter p old.known)), length-map (filter p old.known) departed_of)
