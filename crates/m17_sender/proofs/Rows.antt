-- Items in the order of the memberships that they are to.
use Rattle.std.proofs.Common.{inl, inr, ◌≡◌, ◌≢◌, ◌||◌, Bool, true, false, not, cond, List, [], ◌∷◌, ◌++◌, refl, ap, sym, ◌∙◌, subst, Contains}
use Rattle.std.specs.List.{flat_map, filter}
use Rattle.std.proofs.lemmas.Bool.{true≢false, or_cases, not-true, not_from_false, false_from_ne_true}
use Rattle.std.proofs.lemmas.List.{append_assoc}
use Rattle.std.proofs.lemmas.List.Elements.{Contains-append_right, All-contains, filter-append, filter_passes}
use Rattle.m17_lists.proofs.Lengths.{none_stands_behind}
use Rattle.m17_control.specs.declared.item.Item.{Item}
use Rattle.m17_sender.specs.Joined.{Joined, is_to, is_to_any}
use Rattle.m17_sender.proofs.Grown.{never}
use Rattle.m17_sender.proofs.Splits.{contains_from, flat_map_agree, filter_filter, filter_none_at}
use Rattle.m17_sender.proofs.Members.{same_member}

-- What a filter keeps first, in its list.
pub record IsKept {X : Type 0} (t : X → Bool) (xs : List X) (z : X) : Type 0 where
  pub front : List X
  pub rest : List X
  pub xs_are : xs ≡ front ++ z ∷ rest
  pub passes : t z ≡ true

kept_later : {X : Type 0} (t : X → Bool) (x : X) (xs : List X) (z : X) → IsKept t xs z → IsKept t (x ∷ xs) z
kept_later t x xs z k = record { front = x ∷ k.front; rest = k.rest; xs_are = ap (λ ws. x ∷ ws) k.xs_are; passes = k.passes }

kept_here : {X : Type 0} (t : X → Bool) (x : X) (xs : List X) (z : X) (zs : List X) (b : Bool) → t x ≡ b → (filter t xs ≡ z ∷ zs → IsKept t xs z) → cond b (x ∷ filter t xs) (filter t xs) ≡ z ∷ zs → IsKept t (x ∷ xs) z
kept_here t x xs z zs true is later e =
    let same : x ≡ z = cc in
    record { front = []; rest = xs; xs_are = ap (λ w. w ∷ xs) same; passes = ap t (sym same) ∙ is }
kept_here t x xs z zs false is later e = kept_later t x xs z (later e)

pub kept_first : {X : Type 0} (t : X → Bool) (xs : List X) (z : X) (zs : List X) → filter t xs ≡ z ∷ zs → IsKept t xs z
kept_first t [] z zs e = absurd (never [] zs z e)
kept_first t (x ∷ xs) z zs e = kept_here t x xs z zs (t x) refl (kept_first t xs z zs) e

none_of : {X : Type 0} (t : X → Bool) (xs : List X) → ((front rest : List X) (z : X) → xs ≡ front ++ z ∷ rest → t z ≡ true → ⊥) → (ys : List X) → filter t xs ≡ ys → ys ≡ []
none_of t xs never_so [] e = refl
none_of t xs never_so (z ∷ zs) e =
    let k = kept_first t xs z zs e in absurd (never_so k.front k.rest z k.xs_are k.passes)

-- a filter is empty where no element of it can be
pub none_in : {X : Type 0} (t : X → Bool) (xs : List X) → ((front rest : List X) (z : X) → xs ≡ front ++ z ∷ rest → t z ≡ true → ⊥) → filter t xs ≡ []
none_in t xs never_so = none_of t xs never_so (filter t xs) refl

-- a list with all that passes before all that does not
abbrev pub PassesFirst : {X : Type 0} → (X → Bool) → List X → Type 0
PassesFirst {X} t xs = (front rest : List X) (y : X) → xs ≡ front ++ y ∷ rest → t y ≡ true → filter (λ x. not (t x)) front ≡ []

cond_none : {X : Type 0} (b : Bool) (x : X) (xs : List X) → cond b (x ∷ xs) xs ≡ [] → (b ≡ false) × (xs ≡ [])
cond_none true x xs e = absurd (never [] xs x (sym e))
cond_none false x xs e = (refl, e)

passes_first_tail : {X : Type 0} (t : X → Bool) (x : X) (xs : List X) → PassesFirst t (x ∷ xs) → PassesFirst t xs
passes_first_tail t x xs first = λ front rest y e is.
    (cond_none (not (t x)) x (filter (λ w. not (t w)) front) (first (x ∷ front) rest y (ap (λ ws. x ∷ ws) e) is)).1

none_passes_behind : {X : Type 0} (t : X → Bool) (x : X) (xs : List X) → PassesFirst t (x ∷ xs) → t x ≡ false → filter t xs ≡ []
none_passes_behind t x xs first is =
    none_in t xs (λ front rest z e passes.
    let no : not (t x) ≡ false = (cond_none (not (t x)) x (filter (λ w. not (t w)) front) (first (x ∷ front) rest z (ap (λ ws. x ∷ ws) e) passes)).0 in
    true≢false (sym (not_from_false (t x) is) ∙ no))

parts_at : {X : Type 0} (t : X → Bool) (x : X) (xs : List X) (b : Bool) → t x ≡ b → PassesFirst t (x ∷ xs) → xs ≡ filter t xs ++ filter (λ w. not (t w)) xs → x ∷ xs ≡ cond b (x ∷ filter t xs) (filter t xs) ++ cond (not b) (x ∷ filter (λ w. not (t w)) xs) (filter (λ w. not (t w)) xs)
parts_at t x xs true is first below = ap (λ ws. x ∷ ws) below
parts_at t x xs false is first below =
    let none : filter t xs ≡ [] = none_passes_behind t x xs first is in
    let rest : xs ≡ filter (λ w. not (t w)) xs = below ∙ ap (λ ws. ws ++ filter (λ w. not (t w)) xs) none in
    ap (λ ws. x ∷ ws) rest ∙ ap (λ ws. ws ++ x ∷ filter (λ w. not (t w)) xs) (sym none)

pub parts : {X : Type 0} (t : X → Bool) (xs : List X) → PassesFirst t xs → xs ≡ filter t xs ++ filter (λ w. not (t w)) xs
parts t [] first = refl
parts t (x ∷ xs) first = parts_at t x xs (t x) refl first (parts t xs (passes_first_tail t x xs first))

-- No item to a later membership stands before one to an earlier one, and no two are one membership.
abbrev pub Ordered : List Item → List Joined → Type 0
Ordered items [] = Unit {0}
Ordered items (j ∷ js) =
    ((front rest : List Item) (y : Item) → items ≡ front ++ y ∷ rest → is_to j.member y ≡ true → filter (is_to_any js) front ≡ [])
    × ((k : Joined) → Contains js k → j.member ≢ k.member)
    × Ordered items js

ordered_behind : (front items all : List Item) (js : List Joined) → all ≡ front ++ items → Ordered all js → Ordered items js
ordered_behind front items all [] e h = tt
ordered_behind front items all (j ∷ js) e h = (
  (λ f rest y at is.
      none_stands_behind (filter (is_to_any js) front) (filter (is_to_any js) f)
      (sym (filter-append (is_to_any js) front f)
      ∙ h.0 (front ++ f) rest y (e ∙ ap (λ ws. front ++ ws) at ∙ sym (append_assoc front f (y ∷ rest))) is)),
  h.1,
  ordered_behind front items all js e h.2,
)

abbrev pub AllTo : List Item → List Joined → Type 0
AllTo items js = (x : Item) → Contains items x → is_to_any js x ≡ true

first_ones : (items : List Item) (j : Joined) (js : List Joined) → AllTo items (j ∷ js) → Ordered items (j ∷ js) → PassesFirst (is_to j.member) items
first_ones items j js all ordered = λ front rest y e is.
    none_in (λ x. not (is_to j.member x)) front (λ f g z at passes.
    let here : items ≡ f ++ z ∷ (g ++ y ∷ rest) = e ∙ ap (λ ws. ws ++ y ∷ rest) at ∙ append_assoc f (z ∷ g) (y ∷ rest) in
    let one : (is_to j.member z || is_to_any js z) ≡ true = all z (contains_from items f (g ++ y ∷ rest) z here) in
    elim (or_cases (is_to j.member z) (is_to_any js z) one) [
      | inl mine ↦ true≢false (sym mine ∙ not-true (is_to j.member z) passes)
      | inr theirs ↦ filter_none_at (is_to_any js) front f g z (ordered.0 front rest y e is) at theirs
    ])

others_to : (items : List Item) (j : Joined) (js : List Joined) → AllTo items (j ∷ js) → items ≡ filter (is_to j.member) items ++ filter (λ x. not (is_to j.member x)) items → AllTo (filter (λ x. not (is_to j.member x)) items) js
others_to items j js all e x here =
    let not_mine : not (is_to j.member x) ≡ true = All-contains (λ w. not (is_to j.member w) ≡ true) (filter (λ w. not (is_to j.member w)) items) x (filter_passes (λ w. not (is_to j.member w)) items) here in
    let there : Contains items x = subst (λ ws. Contains ws x) (sym e) (Contains-append_right (filter (is_to j.member) items) (filter (λ w. not (is_to j.member w)) items) x here) in
    elim (or_cases (is_to j.member x) (is_to_any js x) (all x there)) [
      | inl mine ↦ absurd (true≢false (sym mine ∙ not-true (is_to j.member x) not_mine))
      | inr theirs ↦ theirs
    ]

-- Such items are those to each membership, one after another.
pub in_rows : (items : List Item) (js : List Joined) → AllTo items js → Ordered items js → items ≡ flat_map (λ j. filter (is_to j.member) items) js
in_rows [] [] all ordered = refl
in_rows (x ∷ items) [] all ordered = absurd (true≢false (sym (all x (contains_from (x ∷ items) [] items x refl))))
in_rows items (j ∷ js) all ordered =
    let rest : List Item = filter (λ x. not (is_to j.member x)) items in
    let e : items ≡ filter (is_to j.member) items ++ rest = parts (is_to j.member) items (first_ones items j js all ordered) in
    let below : rest ≡ flat_map (λ k. filter (is_to k.member) rest) js = in_rows rest js (others_to items j js all e) (ordered_behind (filter (is_to j.member) items) rest items js e ordered.2) in
    let same : flat_map (λ k. filter (is_to k.member) rest) js ≡ flat_map (λ k. filter (is_to k.member) items) js =
    flat_map_agree (λ k. filter (is_to k.member) rest) (λ k. filter (is_to k.member) items) js (λ k here.
    filter_filter (λ x. not (is_to j.member x)) (is_to k.member) items (λ x theirs.
    not_from_false (is_to j.member x) (false_from_ne_true (is_to j.member x) (λ mine.
    ordered.1 k here (sym (same_member x.member j.member mine) ∙ same_member x.member k.member theirs))))) in
    e ∙ ap (λ ws. filter (is_to j.member) items ++ ws) (below ∙ same)
