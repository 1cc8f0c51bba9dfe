-- Lists that go on, and counts over them.
use Rattle.std.proofs.Common.{◌≡◌, List, [], ◌∷◌, ◌++◌, Option, None, Some, refl, ◌∙◌}
use Rattle.std.specs.List.{filter_map}
use Rattle.std.proofs.lemmas.List.{append-nil}
use Rattle.std.proofs.lemmas.List.Elements.{filter_map-append}

pub filter_map_nothing : {X Y : Type 0} (h : X → Option Y) (xs : List X) (y : X) → h y ≡ None → filter_map h (xs ++ y ∷ []) ≡ filter_map h xs
filter_map_nothing h xs y e = filter_map-append h xs (y ∷ []) ∙ rw e (append-nil (filter_map h xs))

pub filter_map_one : {X Y : Type 0} (h : X → Option Y) (xs : List X) (y : X) (z : Y) → h y ≡ Some z → filter_map h (xs ++ y ∷ []) ≡ filter_map h xs ++ z ∷ []
filter_map_one h xs y z e = filter_map-append h xs (y ∷ []) ∙ rw e refl
