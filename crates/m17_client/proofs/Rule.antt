-- The rule of what passes, item by item.
use Rattle.std.proofs.Common.{◌≡◌, ◌≢◌, ◌↔◌, ◌⊎◌, ℕ, zero, suc, ◌+◌, ◌≤◌, Bool, true, false, cond, List, [], ◌∷◌, ◌++◌, length, take, refl, sym, ap, subst, arith, Option, None, Some, IsTrue, inl, inr}
use Rattle.std.specs.List.{AllByRecursion, items_where_true, last_or, slice_get}
use Rattle.m17_client.specs.Passing.{Crosses, FindsWay, Kept, Passes, way_timeout_ms}

-- each passes behind the last one that did, where it is told so
abbrev pub RuleFrom : Option Kept → List Kept → List Bool → Type 0
RuleFrom before [] [] = Unit {0}
RuleFrom before [] (m ∷ ms) = ⊥
RuleFrom before (x ∷ xs) [] = ⊥
RuleFrom before (x ∷ xs) (m ∷ ms) =
    ((m ≡ true) ↔ Passes before x) × RuleFrom (cond m (Some x) before) xs ms

-- the last one that passed, after one more item
next : (before : Option Kept) (m : Bool) (ms : List Bool) (x : Kept) (xs : List Kept)
    → last_or before (items_where_true (m ∷ ms) (x ∷ xs))
    ≡ last_or (cond m (Some x) before) (items_where_true ms xs)
next before true ms x xs = refl
next before false ms x xs = refl

pub rule_append : (before : Option Kept) (xs : List Kept) (ms : List Bool) (ys : List Kept) (ns : List Bool)
    → RuleFrom before xs ms → RuleFrom (last_or before (items_where_true ms xs)) ys ns
    → RuleFrom before (xs ++ ys) (ms ++ ns)
rule_append before [] [] ys ns h more = more
rule_append before [] (m ∷ ms) ys ns h more = absurd h
rule_append before (x ∷ xs) [] ys ns h more = absurd h
rule_append before (x ∷ xs) (m ∷ ms) ys ns h more = (
  h.0,
  rule_append (cond m (Some x) before) xs ms ys ns h.1
      (subst (λ o. RuleFrom o ys ns) (next before m ms x xs) more),
)

-- the rule by look-up, behind an earlier one that passed
abbrev ByLookUp : Option Kept → List Kept → List Bool → Type 0
ByLookUp before xs ms = (n : ℕ) (it : Kept) → slice_get xs n ≡ Some it
    → (slice_get ms n ≡ Some true)
    ↔ Passes (last_or before (items_where_true (take n ms) (take n xs))) it

looked_up : (before : Option Kept) (xs : List Kept) (ms : List Bool) → RuleFrom before xs ms
    → ByLookUp before xs ms
looked_up before [] ms h n it at = absurd (cc)
looked_up before (x ∷ xs) [] h n it at = absurd h
looked_up before (x ∷ xs) (m ∷ ms) h zero it at =
    let same : x ≡ it = cc in (
      λ e. subst (λ k. Passes before k) same (h.0.0 (let is : m ≡ true = cc in is)),
      λ p. ap (λ b. Some b) (h.0.1 (subst (λ k. Passes before k) (sym same) p)),
    )
looked_up before (x ∷ xs) (m ∷ ms) h (suc n) it at =
    subst (λ o. (slice_get ms n ≡ Some true) ↔ Passes o it)
    (sym (next before m (take n ms) x (take n xs)))
    (looked_up (cond m (Some x) before) xs ms h.1 n it at)

one_by_one : (before : Option Kept) (xs : List Kept) (ms : List Bool) → length ms ≡ length xs
    → ByLookUp before xs ms → RuleFrom before xs ms
one_by_one before [] [] e h = tt
one_by_one before [] (m ∷ ms) e h = absurd (omega arith)
one_by_one before (x ∷ xs) [] e h = absurd (omega arith)
one_by_one before (x ∷ xs) (m ∷ ms) e h = (
  (
    λ is. (h 0 x refl).0 (ap (λ b. Some b) is),
    λ p. (let is : Some m ≡ Some true = (h 0 x refl).1 p in let same : m ≡ true = cc in same),
  ),
  one_by_one (cond m (Some x) before) xs ms (omega arith)
      (λ n it at. subst (λ o. (slice_get ms n ≡ Some true) ↔ Passes o it)
      (next before m (take n ms) x (take n xs)) (h (suc n) it at)),
)

rule_lengths : (before : Option Kept) (xs : List Kept) (ms : List Bool) → RuleFrom before xs ms
    → length ms ≡ length xs
rule_lengths before [] [] h = refl
rule_lengths before [] (m ∷ ms) h = absurd h
rule_lengths before (x ∷ xs) [] h = absurd h
rule_lengths before (x ∷ xs) (m ∷ ms) h =
    let more = rule_lengths (cond m (Some x) before) xs ms h.1 in omega arith

pub crosses_by : (xs : List Kept) (ms : List Bool) → RuleFrom None xs ms → Crosses xs ms
crosses_by xs ms h = record { each_told = rule_lengths None xs ms h; rule = looked_up None xs ms h }

pub rule_of : (xs : List Kept) (ms : List Bool) → Crosses xs ms → RuleFrom None xs ms
rule_of xs ms h = one_by_one None xs ms h.each_told h.rule

-- what passes: each is to a side that is connected, and each finds the way free behind the one
-- before it
pub all_connected : (before : Option Kept) (xs : List Kept) (ms : List Bool) → RuleFrom before xs ms
    → AllByRecursion (λ k. IsTrue k.connected) (items_where_true ms xs)
all_connected before [] [] h = tt
all_connected before [] (m ∷ ms) h = absurd h
all_connected before (x ∷ xs) [] h = absurd h
all_connected before (x ∷ xs) (true ∷ ms) h =
    ((h.0.0 refl).connected, all_connected (Some x) xs ms h.1)
all_connected before (x ∷ xs) (false ∷ ms) h = all_connected before xs ms h.1

abbrev Behind : Option Kept → List Kept → Type 0
Behind before [] = Unit {0}
Behind before (x ∷ xs) = FindsWay before x × Behind (Some x) xs

all_find_way : (before : Option Kept) (xs : List Kept) (ms : List Bool) → RuleFrom before xs ms
    → Behind before (items_where_true ms xs)
all_find_way before [] [] h = tt
all_find_way before [] (m ∷ ms) h = absurd h
all_find_way before (x ∷ xs) [] h = absurd h
all_find_way before (x ∷ xs) (true ∷ ms) h = ((h.0.0 refl).way, all_find_way (Some x) xs ms h.1)
all_find_way before (x ∷ xs) (false ∷ ms) h = all_find_way before xs ms h.1

neighbours : (before : Option Kept) (front rest : List Kept) (a b : Kept)
    → Behind before (front ++ a ∷ b ∷ rest) → a.side ≢ b.side
    → (a.packet.last ≡ true) ⊎ (a.at + way_timeout_ms ≤ b.at)
neighbours before [] rest a b h ne = elim h.1.0 [ inl same ↦ absurd (ne same) | inr free ↦ free ]
neighbours before (x ∷ front) rest a b h ne = neighbours (Some x) front rest a b h.1 ne

pub takes_turns : (xs : List Kept) (ms : List Bool) → RuleFrom None xs ms
    → (front rest : List Kept) (a b : Kept) → items_where_true ms xs ≡ front ++ a ∷ b ∷ rest
    → a.side ≢ b.side → (a.packet.last ≡ true) ⊎ (a.at + way_timeout_ms ≤ b.at)
takes_turns xs ms h front rest a b e ne =
    neighbours None front rest a b (subst (λ l. Behind None l) e (all_find_way None xs ms h)) ne
