-- What is picked of two lists, and the sides.
use Rattle.std.proofs.Common.{◌≡◌, ℕ, zero, suc, Bool, true, false, List, [], ◌∷◌, ◌++◌, length, take, refl, ap, subst, arith, Some}
use Rattle.std.specs.List.{items_where_true, slice_get}
use Rattle.m17_client.specs.declared.side.Side.{Side}
use Rattle.m17_client.specs.declared.side.Side.TheVariants.{Near, Far}
use Rattle.m17_client.specs.Standing.{Standing}
use Rattle.m17_client.specs.Sides.{Both, is_side, of, opposite}
use Rattle.m17_client.specs.StandsFor.{MayBeJoined, MayCross}

module _ {A : Type 0} where
  -- what is picked of one list and then of another
  pub picked_both : (ms ns : List Bool) (xs ys : List A) → length ms ≡ length xs
      → items_where_true (ms ++ ns) (xs ++ ys) ≡ items_where_true ms xs ++ items_where_true ns ys
  picked_both [] ns [] ys e = refl
  picked_both [] ns (x ∷ xs) ys e = absurd (omega arith)
  picked_both (m ∷ ms) ns [] ys e = absurd (omega arith)
  picked_both (true ∷ ms) ns (x ∷ xs) ys e =
      ap (λ (l : List A). x ∷ l) (picked_both ms ns xs ys (omega arith))
  picked_both (false ∷ ms) ns (x ∷ xs) ys e = picked_both ms ns xs ys (omega arith)

  -- what holds of each item behind all earlier ones still does after one more
  pub each_more : (P : List A → A → Type 0) (xs : List A) (x : A)
      → ((n : ℕ) (y : A) → slice_get xs n ≡ Some y → P (take n xs) y) → P xs x
      → (n : ℕ) (y : A) → slice_get (xs ++ x ∷ []) n ≡ Some y → P (take n (xs ++ x ∷ [])) y
  each_more P [] x each last zero y at = let same : x ≡ y = cc in subst (λ z. P [] z) same last
  each_more P [] x each last (suc n) y at = absurd (cc)
  each_more P (z ∷ xs) x each last zero y at = each 0 y at
  each_more P (z ∷ xs) x each last (suc n) y at =
      each_more (λ l w. P (z ∷ l) w) xs x (λ k w here. each (suc k) w here) last n y at

-- what holds of a side and of the other one holds of each
pub by_sides : (P : Side → Type 0) (side s : Side) → P side → P (opposite side) → P s
by_sides P Near Near own other = own
by_sides P Near Far own other = other
by_sides P Far Near own other = other
by_sides P Far Far own other = own

-- each client may be joined
pub may_cross : (ends : Both Standing) → MayBeJoined ends → (side : Side) → MayCross (of side ends)
may_cross ends joined Near = joined.near
may_cross ends joined Far = joined.far

pub is_same_side : (side : Side) → is_side side side ≡ true
is_same_side Near = refl
is_same_side Far = refl

pub is_other_side : (side : Side) → is_side side (opposite side) ≡ false
is_other_side Near = refl
is_other_side Far = refl

pub opposite_twice : (side : Side) → opposite (opposite side) ≡ side
opposite_twice Near = refl
opposite_twice Far = refl
