-- A grid is one still where an end of one of its columns pushes.
use Rattle.std.proofs.Common.{◌≡◌, ℕ, zero, suc, List, [], ◌∷◌, map, set, get_or, sym, subst, refl, ap, ◌∙◌}
use Rattle.std.proofs.lemmas.List.{map-set}
use Rattle.std.proofs.Math.ListN.{get_or-map}
use Rattle.std.specs.List.{AllZip}
use Rattle.m17_lane.specs.Ends.{PushEnd, PopEnd}
use Rattle.m17_lane.specs.Rows.{push_each, only, as_new, IsSameRow}
use Rattle.m17_lane.specs.RowsLaws.{RowsPush}
use Rattle.m17_lane.specs.GridLaws.{GridsStand}
use Rattle.m17_lane.specs.Columns.{IsGrid}

module _ {T : Type 0} where
  same_zip : (cols : List (List (PushEnd T))) → AllZip IsSameRow cols cols
  same_zip [] = tt
  same_zip (c ∷ cols) = (refl, same_zip cols)

  put_zip : (cols : List (List (PushEnd T))) (i : ℕ) (was is : List (PushEnd T)) → was ≡ get_or cols i was → IsSameRow was is → AllZip IsSameRow cols (set cols i is)
  put_zip [] i was is at h = tt
  put_zip (c ∷ cols) zero was is at h = (subst (λ (r : List (PushEnd T)). IsSameRow r is) at h, same_zip cols)
  put_zip (c ∷ cols) (suc i) was is at h = (refl, put_zip cols i was is at h)

  pub same_put : {V : Type 0} (items : V → List (PushEnd T)) (vs : List V) (ps : List (PopEnd T)) (i m : ℕ) (x : T) (was is : V) → was ≡ get_or vs i was → items is ≡ push_each (only m x) 0 (items was) → RowsPush T → GridsStand T → IsGrid (map items vs) ps → IsGrid (map items (set vs i is)) ps
  same_put items vs ps i m x was is at pushed law stand h =
      let there : items was ≡ get_or (map items vs) i (items was) = ap items at ∙ sym (get_or-map items vs i was) in
      let kept : IsSameRow (items was) (items is) = ap (map as_new) pushed ∙ law.kept (only m x) 0 (items was) in
      subst (λ (cs : List (List (PushEnd T))). IsGrid cs ps) (sym (map-set items vs i is))
      (stand.stays (map items vs) (set (map items vs) i (items is)) ps ps (put_zip (map items vs) i (items was) (items is) there kept) refl h)
