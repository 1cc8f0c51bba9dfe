-- What a run of the reflector comes to, whose board is shown or is not.
use Rattle.std.specs.Prelude.{◌≡◌, ℕ, Bool, false, List, [], length, map, Option, None, Some}
use Rattle.m17_ports.specs.Book.{BookTold}
use Rattle.m17_control.specs.declared.event.Event.{Event}
use Rattle.m17_control.specs.declared.modules.Modules.{Modules}
use Rattle.m17_lane.specs.Ends.{TrailEnd}
use Rattle.m17_worker.specs.Records.{records_of}
use Rattle.m17_plan.specs.declared.plan.Plan.{Plan}
use Rattle.m17_board.specs.Ends.{PostEnd}
use Rattle.m17_board.specs.Kept.{told_or, unposted}
use Rattle.m17_board.specs.Whole.{StandWhole}
use Rattle.m17_board.specs.Written.{ShowsBoard}
use Rattle.m17_reflect.specs.Headline.{Headline}
use Rattle.m17_reflect.specs.Laws.{AreSameDevices}
use Rattle.m17_reflect.specs.Links.{At, setup_at}
use Rattle.m17_reflect.specs.Run.{Devices, Handed, Run}
use Rattle.m17_reflect.specs.Trails.{events_of}
use Rattle.m17_reflect.specs.declared.returned.HouseRefusal.{HouseRefusal}
use Rattle.m17_reflect.specs.declared.returned.HouseRefusal.TheVariants.{Crew}
use Rattle.m17_board_run.specs.Kept.{on_board}
use Rattle.m17_board_run.specs.declared.kept.KeptLabel.{KeptLabel}

-- What was posted at a module's shelf: where no write of it failed, the records that stand whole in its bytes, or where it
-- tells none, as without a book, in those that were written to it.
abbrev pub IsPosted : {B : Type 0} → BookTold (Option B) → PostEnd → Type 0
IsPosted book poster = (bytes : List ℕ) → told_or book.written poster.taken ≡ Some bytes
    → book.faults ≡ 0 → StandWhole bytes poster.posted

-- What was posted at the shelves of modules, where there are posters: what stands whole in the bytes of each, and that is the
-- records of the module's trail, whether there is a book on the shelf or none.
pub record ArePosted {B : Type 0} (plan : Plan) (books : List (BookTold (Option B)))
    (trails : List (TrailEnd Event)) (posters : List PostEnd) : Type 0 where
  pub whole : (m : ℕ) (book : BookTold (Option B)) (poster : PostEnd) → At books m book
      → At posters m poster → IsPosted book poster
  pub of_trails : (m : ℕ) (book : BookTold (Option B)) (trail : TrailEnd Event) (poster : PostEnd)
      → At books m book → At trails m trail → At posters m poster → book.faults ≡ 0 →
      poster.posted ≡ records_of (setup_at plan m) (events_of trail)

module _ {E M B : Type 0} where
  -- what a run of the reflector over these devices shows, with these posters over its books, if there are any
  abbrev pub run_on_board : Plan → List PostEnd → Devices E M (Option B) → Devices E M (Option B)
      → Handed → Run E M (KeptLabel B)
  run_on_board plan posters before after handed = record {
    plan = plan;
    before = on_board (map unposted posters) before;
    after = on_board posters after;
    handed = handed;
  }

  -- The reflector ran over these devices, and they come back: the headline holds of the run as it saw them, its books with a
  -- poster over each, if there are any.
  pub record RanOver (plan : Plan) (posters : List PostEnd) (before after : Devices E M (Option B))
      (handed : Handed) : Type 0 where
    pub headline : Headline (run_on_board plan posters before after handed)
    pub same_devices : AreSameDevices before after
    pub posted : ArePosted plan after.books handed.trails posters

module _ {B : Type 0} where
  -- Where a board is shown, there is a poster for each of so many modules, and the lines show what was posted, module by
  -- module; `failed` says whether a write of a line failed. Where none is, there is no poster and no line.
  abbrev pub ShowLines : Modules → ℕ → List PostEnd → Bool → Option (BookTold B)
      → Option (BookTold B) → Type 0
  ShowLines modules count posters failed (Some empty) (Some lines) =
      (length posters ≡ count) × ShowsBoard modules posters failed empty lines
  ShowLines modules count posters failed (Some empty) None = ⊥
  ShowLines modules count posters failed None (Some lines) = ⊥
  ShowLines modules count posters failed None None = (posters ≡ []) × (failed ≡ false)

  -- The book of the lines where nothing was run: it stays away only where the crew refused the watch; where it comes back, it
  -- is the same book, and nothing was written in it.
  abbrev pub LinesBack : HouseRefusal → Option (BookTold B) → Option (BookTold B) → Type 0
  LinesBack why (Some empty) (Some lines) = lines ≡ empty
  LinesBack why (Some empty) None = why ≡ Crew
  LinesBack why None (Some lines) = ⊥
  LinesBack why None None = Unit {0}

-- The reflector ran over these devices, and they come back; and the lines of the board show what was posted, where there
-- are lines. These are told of the book of the lines before the run and after it.
pub record RanOnBoard {E M B : Type 0} (plan : Plan) (before after : Devices E M (Option B))
    (handed : Handed) (lines_failed : Bool) (empty lines : Option (BookTold B)) : Type 0 where
  pub posters : List PostEnd
  pub ran : RanOver plan posters before after handed
  pub lines_show : ShowLines plan.modules (length after.books) posters lines_failed empty lines
