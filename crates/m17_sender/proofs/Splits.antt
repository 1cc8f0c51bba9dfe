-- Lists taken apart at an item, and lists that a function makes of each item: one item, or none.
use Rattle.std.proofs.Common.{◌≡◌, suc, ◌<◌, Bool, true, false, cond, List, [], ◌∷◌, ◌++◌, ◌⊎◌, inl, inr, refl, ap, sym, ◌∙◌, arith, length, take, drop, set, Contains}
use Rattle.std.specs.List.{flat_map, filter}
use Rattle.std.proofs.lemmas.List.{set_split, set-get_or}
use Rattle.std.proofs.lemmas.List.Concat.{flat_map-append}
use Rattle.std.proofs.lemmas.List.Elements.{Contains-append_right, filter-append}
use Rattle.m17_lists.proofs.Contents.{first_is_in, rest_is_in}
use Rattle.m17_sender.proofs.Grown.{never}

-- a place in one list and then another: in the first, or in the second
pub append_split : {T : Type 0} (xs ys front rest : List T) (x : T) → xs ++ ys ≡ front ++ x ∷ rest → ((back : List T) × (xs ≡ front ++ x ∷ back)) ⊎ ((more : List T) × (front ≡ xs ++ more))
append_split [] ys front rest x e = inr (front, refl)
append_split (z ∷ xs) ys [] rest x e = inl (let same : z ≡ x = cc in (xs, ap (λ w. w ∷ xs) same))
append_split (z ∷ xs) ys (f ∷ front) rest x e =
    let same : z ≡ f = cc in
    let below : xs ++ ys ≡ front ++ x ∷ rest = cc in
    elim (append_split xs ys front rest x below) [
      | inl h ↦ inl (let at : z ∷ xs ≡ f ∷ (front ++ x ∷ h.0) = cc in (h.0, at))
      | inr h ↦ inr (let at : f ∷ front ≡ z ∷ (xs ++ h.0) = cc in (h.0, at))
    ]

-- an element, and what stands on both sides of it
pub contains_split : {T : Type 0} (xs : List T) (x : T) → Contains xs x → (front : List T) × (rest : List T) × (xs ≡ front ++ x ∷ rest)
contains_split xs x (k, lt, is) =
    (take k xs, drop (suc k) xs, sym (set-get_or xs k x) ∙ ap (set xs k) is ∙ set_split xs k x lt)

pub contains_at : {T : Type 0} (front rest : List T) (x : T) → Contains (front ++ x ∷ rest) x
contains_at front rest x = Contains-append_right front (x ∷ rest) x (0, (let lt : 0 < suc (length rest) = omega arith in lt), refl)

pub contains_from : {T : Type 0} (xs front rest : List T) (x : T) → xs ≡ front ++ x ∷ rest → Contains xs x
contains_from xs front rest x e = rw e (contains_at front rest x)

-- What f makes of an item is one item, or none.
abbrev pub MakesOne : {X A : Type 0} → (X → List A) → Type 0
MakesOne {X} {A} f = (x : X) → (f x ≡ []) ⊎ ((a : A) × (f x ≡ a ∷ []))

pub one_if : {A : Type 0} (b : Bool) (a : A) → (cond b (a ∷ []) [] ≡ []) ⊎ ((c : A) × (cond b (a ∷ []) [] ≡ c ∷ []))
one_if true a = inr (a, refl)
one_if false a = inl refl

-- The item of which f makes y, where y stands behind front among all that f makes.
pub record Found {X A : Type 0} (f : X → List A) (xs : List X) (front : List A) (y : A) : Type 0 where
  pub before : List X
  pub it : X
  pub behind : List X
  pub xs_are : xs ≡ before ++ it ∷ behind
  pub front_is : flat_map f before ≡ front
  pub it_is : f it ≡ y ∷ []

found_past : {X A : Type 0} (f : X → List A) (x : X) (xs : List X) (made front : List A) (y : A) → f x ≡ made → Found f xs front y → Found f (x ∷ xs) (made ++ front) y
found_past f x xs made front y e found = record {
  before = x ∷ found.before;
  it = found.it;
  behind = found.behind;
  xs_are = ap (λ ws. x ∷ ws) found.xs_are;
  front_is = ap (λ ws. ws ++ flat_map f found.before) e ∙ ap (λ ws. made ++ ws) found.front_is;
  it_is = found.it_is;
}

found_one : {X A : Type 0} (f : X → List A) (x : X) (xs : List X) (a : A) → f x ≡ a ∷ [] → (front rest : List A) (y : A) → ((front rest : List A) → flat_map f xs ≡ front ++ y ∷ rest → Found f xs front y) → a ∷ flat_map f xs ≡ front ++ y ∷ rest → Found f (x ∷ xs) front y
found_one f x xs a made [] rest y below e = record {
  before = [];
  it = x;
  behind = xs;
  xs_are = refl;
  front_is = refl;
  it_is = made ∙ (let same : a ≡ y = cc in ap (λ w. w ∷ []) same);
}
found_one f x xs a made (b ∷ front) rest y below e =
    let same : a ≡ b = cc in
    let later : flat_map f xs ≡ front ++ y ∷ rest = cc in
    found_past f x xs (b ∷ []) front y (made ∙ ap (λ w. w ∷ []) same) (below front rest later)

pub found_in : {X A : Type 0} (f : X → List A) → MakesOne f → (xs : List X) (front rest : List A) (y : A) → flat_map f xs ≡ front ++ y ∷ rest → Found f xs front y
found_in f one [] front rest y e = absurd (never front rest y e)
found_in f one (x ∷ xs) front rest y e =
    elim (one x) [
      | inl none ↦ found_past f x xs [] front y none (found_in f one xs front rest y (ap (λ ws. ws ++ flat_map f xs) (sym none) ∙ e))
      | inr h ↦ found_one f x xs h.0 h.1 front rest y (λ fr re. found_in f one xs fr re y) (ap (λ ws. ws ++ flat_map f xs) (sym h.1) ∙ e)
    ]

-- what f makes on both sides of an item
pub flat_map_at : {X A : Type 0} (f : X → List A) (xs front rest : List X) (x : X) (a : A) → xs ≡ front ++ x ∷ rest → f x ≡ a ∷ [] → flat_map f xs ≡ flat_map f front ++ a ∷ flat_map f rest
flat_map_at f xs front rest x a e made =
    ap (flat_map f) e ∙ flat_map-append f front (x ∷ rest)
    ∙ ap (λ ws. flat_map f front ++ (ws ++ flat_map f rest)) made

-- a filter of what f makes
pub filter_flat_map : {X A : Type 0} (t : A → Bool) (f : X → List A) (xs : List X) → filter t (flat_map f xs) ≡ flat_map (λ x. filter t (f x)) xs
filter_flat_map t f [] = refl
filter_flat_map t f (x ∷ xs) =
    filter-append t (f x) (flat_map f xs) ∙ ap (λ ws. filter t (f x) ++ ws) (filter_flat_map t f xs)

-- functions that agree on the items of a list
pub flat_map_agree : {X A : Type 0} (f g : X → List A) (xs : List X) → ((x : X) → Contains xs x → f x ≡ g x) → flat_map f xs ≡ flat_map g xs
flat_map_agree f g [] h = refl
flat_map_agree f g (x ∷ xs) h =
    ap (λ ws. ws ++ flat_map f xs) (h x (first_is_in xs x))
    ∙ ap (λ ws. g x ++ ws) (flat_map_agree f g xs (λ y i. h y (rest_is_in x xs y i)))

pub filter_agree_on : {X : Type 0} (p q : X → Bool) (xs : List X) → ((x : X) → Contains xs x → p x ≡ q x) → filter p xs ≡ filter q xs
filter_agree_on p q [] h = refl
filter_agree_on p q (x ∷ xs) h =
    ap (λ b. cond b (x ∷ filter p xs) (filter p xs)) (h x (first_is_in xs x))
    ∙ ap (λ ws. cond (q x) (x ∷ ws) ws) (filter_agree_on p q xs (λ y i. h y (rest_is_in x xs y i)))

-- a filter within a filter that keeps more
filter_dropped : {X : Type 0} (p q : X → Bool) (x : X) (xs : List X) (c : Bool) → q x ≡ false → filter q (filter p xs) ≡ filter q xs → filter q (cond c (x ∷ filter p xs) (filter p xs)) ≡ filter q xs
filter_dropped p q x xs true not below =
    ap (λ b. cond b (x ∷ filter q (filter p xs)) (filter q (filter p xs))) not ∙ below
filter_dropped p q x xs false not below = below

filter_kept : {X : Type 0} (p q : X → Bool) (x : X) (xs : List X) (b : Bool) → q x ≡ b → (q x ≡ true → p x ≡ true) → filter q (filter p xs) ≡ filter q xs → filter q (cond (p x) (x ∷ filter p xs) (filter p xs)) ≡ cond b (x ∷ filter q xs) (filter q xs)
filter_kept p q x xs true is more below =
    ap (λ c. filter q (cond c (x ∷ filter p xs) (filter p xs))) (more is)
    ∙ ap (λ c. cond c (x ∷ filter q (filter p xs)) (filter q (filter p xs))) is
    ∙ ap (λ ws. x ∷ ws) below
filter_kept p q x xs false is more below = filter_dropped p q x xs (p x) is below

pub filter_filter : {X : Type 0} (p q : X → Bool) (xs : List X) → ((x : X) → q x ≡ true → p x ≡ true) → filter q (filter p xs) ≡ filter q xs
filter_filter p q [] more = refl
filter_filter p q (x ∷ xs) more = filter_kept p q x xs (q x) refl (more x) (filter_filter p q xs more)

-- a filter that keeps nothing, at an item
pub filter_none_at : {X : Type 0} (p : X → Bool) (xs front rest : List X) (x : X) → filter p xs ≡ [] → xs ≡ front ++ x ∷ rest → p x ≡ true → ⊥
filter_none_at p xs front rest x none e is =
    never (filter p front) (filter p rest) x
    (sym none ∙ ap (filter p) e ∙ filter-append p front (x ∷ rest) ∙ ap (λ b. filter p front ++ cond b (x ∷ filter p rest) (filter p rest)) is)
