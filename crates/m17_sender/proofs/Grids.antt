-- What one pop at a place of the queues comes to at every place, and that the queues keep their shape.
use Rattle.std.proofs.Common.{◌≡◌, inl, inr, ℕ, suc, List, [], ◌∷◌, ◌++◌, map, length, Option, None, Some, refl, sym, ap, ◌∙◌}
use Rattle.std.specs.List.{slice_get}
use Rattle.std.specs.Option.{option_map}
use Rattle.m17_lists.proofs.Places.{each_place_has_one}
use Rattle.m17_lane.specs.Ends.{PopEnd}
use Rattle.m17_control.specs.declared.item.Item.{Item}
use Rattle.m17_lane.specs.Rows.{pops, pop_each}
use Rattle.m17_lane.specs.Grids.{only_in, pop_grid}
use Rattle.m17_lane.specs.RowsLaws.{GridsPop, RowsPop}
use Rattle.m17_sender.specs.Cells.{HasPlace}
use Rattle.m17_sender.specs.Places.{at_place, in_row, popped_at, popped_by}
use Rattle.m17_sender.proofs.Lists.{at_or_else}

popped_row : (r : Option (PopEnd Item)) (xs : List Item) → (r ≡ None → xs ≡ [])
    → popped_by (option_map (λ p. pops p xs) r) ≡ popped_by r ++ xs
popped_row None xs none = sym (none refl)
popped_row (Some p) xs none = refl

popped_rows : RowsPop Item → (r : Option (List (PopEnd Item))) (f : ℕ → List Item) (b : ℕ)
    → (in_row r b ≡ None → f b ≡ [])
    → popped_by (in_row (option_map (pop_each f 0) r) b) ≡ popped_by (in_row r b) ++ f b
popped_rows law None f b none = sym (none refl)
popped_rows law (Some row) f b none =
    ap popped_by (law.at f row b) ∙ popped_row (slice_get row b) (f b) none

is_there : (rows : List (List (PopEnd Item))) (m q : ℕ) → HasPlace rows m q → at_place rows m q ≡ None → ⊥
is_there rows m q p e =
    let x = each_place_has_one p.row q p.within in
    let is : at_place rows m q ≡ Some x.0 = ap (λ (r : Option (List (PopEnd Item))). in_row r q) p.is_row ∙ x.1 in
    let bad : ⊥ = cc in bad

pub popped_more : RowsPop Item → GridsPop Item → (rows : List (List (PopEnd Item))) (m q : ℕ) (x : Item)
    → HasPlace rows m q → (a b : ℕ)
    → popped_at (pop_grid (only_in m q x) 0 rows) a b ≡ popped_at rows a b ++ only_in m q x a b
popped_more row_law law rows m q x p a b =
    ap (λ (r : Option (List (PopEnd Item))). popped_by (in_row r b)) (law.at (only_in m q x) rows a)
    ∙ popped_rows row_law (slice_get rows a) (only_in m q x a) b
    (λ e. elim (at_or_else m q x a b) [
      | inl is ↦ absurd (is_there rows m q p (sym (ap (λ (n : ℕ). at_place rows n b) is.0
          ∙ ap (λ (n : ℕ). at_place rows m n) is.1) ∙ e))
      | inr isnt ↦ isnt.1
    ])

row_count : (f : ℕ → List Item) (k : ℕ) (row : List (PopEnd Item)) → length (pop_each f k row) ≡ length row
row_count f k [] = refl
row_count f k (p ∷ ps) = ap suc (row_count f (suc k) ps)

pub grid_count : (f : ℕ → ℕ → List Item) (k : ℕ) (rows : List (List (PopEnd Item)))
    → map length (pop_grid f k rows) ≡ map length rows
grid_count f k [] = refl
grid_count f k (row ∷ rows) =
    let first = row_count (f k) 0 row in let rest = grid_count f (suc k) rows in λ i. first i ∷ rest i
