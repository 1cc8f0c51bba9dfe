-- What comes back of a run, its traces and books as shelves. No public clause cites this module.
use Rattle.std.specs.Prelude.{◌≡◌, ℕ, ◌≤◌, [], map, vec_capacity}
use Rattle.m17_ports.specs.declared.shelf.Shelf.{Shelf}
use Rattle.m17_reflect.specs.Views.{handed_of}
use Rattle.m17_reflect.specs.declared.returned.Refused.{Refused}
use Rattle.m17_reflect.specs.declared.returned.Returned.{Returned}
use Rattle.m17_board_run.specs.Putting.{plain_of}
use Rattle.m17_board_run.specs.declared.keeping.Back.{Back}
use Rattle.m17_board_run.specs.declared.kept.Kept.{Kept}

-- there is room for what comes back of this number of links and of modules, and nothing is there yet
pub record HasRoom {B : Type 0} (links modules : ℕ) (back : Back B) : Type 0 where
  pub traces : (back.traces.items ≡ []) × (links ≤ vec_capacity back.traces)
  pub books : (back.books.items ≡ []) × (modules ≤ vec_capacity back.books)
  pub posters : (back.posters.items ≡ []) × (modules ≤ vec_capacity back.posters)

module _ {E M B R L : Type 0} where
  -- what a run hands back, its traces and books as shelves
  pub record IsOff (house : Returned E M (Kept B R L)) (back : Returned E M (Shelf B)) : Type 0 where
    pub ears : back.ears.items ≡ house.ears.items
    pub mouths : back.mouths.items ≡ house.mouths.items
    pub traces : back.traces.items ≡ map plain_of house.traces.items
    pub books : back.books.items ≡ map plain_of house.books.items
    pub handed : handed_of back ≡ handed_of house

  -- the same where nothing was run
  pub record IsOffRefused (refused : Refused E M (Kept B R L)) (back : Refused E M (Shelf B))
      : Type 0 where
    pub ears : back.ears.items ≡ refused.ears.items
    pub mouths : back.mouths.items ≡ refused.mouths.items
    pub traces : back.traces.items ≡ map plain_of refused.traces.items
    pub books : back.books.items ≡ map plain_of refused.books.items
    pub why : back.why ≡ refused.why
