-- A run of the reflector, from what it hands back to what is handed back of it.
use Rattle.std.proofs.Common.{◌≡◌, ◌⊎◌, ℕ, zero, suc, Bool, false, List, [], ◌∷◌, map, length, replicate, slice_index, All, Option, refl, sym, ap, subst, ◌∙◌}
use Rattle.std.specs.Prelude.{IfErr, Result, Ok, Err, None, Some, option_map}
use Rattle.std.specs.List.{AllZip}
use Rattle.std.proofs.lemmas.List.{length-map}
use Rattle.std.proofs.lemmas.List.Elements.{All-cons, All-map, All-nil}
use Rattle.m17_ports.specs.Book.{BookTold}
use Rattle.m17_ports.specs.Ear.{EarTold}
use Rattle.m17_ports.specs.Mouth.{MouthTold}
use Rattle.m17_ports.specs.Told.{StartsEmpty}
use Rattle.m17_ports.specs.declared.shelf.Shelf.{Shelf}
use Rattle.m17_plan.specs.declared.plan.Plan.{Plan}
use Rattle.m17_board.specs.Ends.{AreOfOneBoard, EyeEnd, NewPairs, PostEnd}
use Rattle.m17_board.specs.Laws.{OneListStandsWhole}
use Rattle.m17_reflect.specs.Headline.{Headline}
use Rattle.m17_reflect.specs.Laws.{AreSameDevices, DevicesStay}
use Rattle.m17_reflect.specs.Run.{Devices, Handed, module_count}
use Rattle.m17_reflect.specs.Views.{Kinds, devices_of, handed_of, kinds_back, kinds_refused, run_of}
use Rattle.m17_reflect.specs.declared.returned.HouseRefusal.{HouseRefusal}
use Rattle.m17_reflect.specs.declared.returned.HouseRefusal.TheVariants.{Crew, NoMemory}
use Rattle.m17_reflect.specs.declared.returned.Refused.{Refused}
use Rattle.m17_reflect.specs.declared.returned.Returned.{Returned}
use Rattle.m17_board.specs.Kept.{unposted}
use Rattle.m17_board.specs.Laws.{NumbersRise}
use Rattle.m17_board.specs.Ending.{IsFresh}
use Rattle.m17_board.specs.Shows.{WatchDid}
use Rattle.m17_board.specs.declared.watch.Watch.{Watch}
use Rattle.m17_board_run.specs.Boarded.{LinesBack, RanOver}
use Rattle.m17_board_run.specs.Kept.{kept_told, plain_told, posting_each, told_of_shelf}
use Rattle.m17_board_run.specs.Putting.{plain_of, posters_of, IsBack, IsKept, IsSameEnd}
use Rattle.m17_board_run.specs.Returning.{IsOff, IsOffRefused}
use Rattle.m17_board_run.specs.declared.kept.Kept.{Kept}
use Rattle.m17_board_run.specs.declared.kept.KeptLabel.{KeptLabel}
use Rattle.m17_board_run.proofs.Books.{as_many, length_over, same_board, same_off, same_posting, stay_kept, told_kept, told_traces}
use Rattle.m17_board_run.proofs.Trails.{of_trail, posted_whole}

-- at new posters nothing was posted
pub none_posted : (from : ℕ) (ps : List PostEnd) (es : List EyeEnd) → NewPairs from ps es → All (λ poster. poster.posted ≡ []) ps
none_posted from [] es new = All-nil (λ poster. poster.posted ≡ [])
none_posted from (p ∷ ps) [] new = absurd new
none_posted from (p ∷ ps) (e ∷ es) new =
    All-cons (λ poster. poster.posted ≡ []) p ps (ap (λ (q : PostEnd). q.posted) new.0.0) (none_posted (suc from) ps es new.1)

-- and their books took nothing
pub none_taken : (from : ℕ) (ps : List PostEnd) (es : List EyeEnd) → NewPairs from ps es → All (λ poster. poster.taken ≡ []) ps
none_taken from [] es new = All-nil (λ poster. poster.taken ≡ [])
none_taken from (p ∷ ps) [] new = absurd new
none_taken from (p ∷ ps) (e ∷ es) new =
    All-cons (λ poster. poster.taken ≡ []) p ps (ap (λ (q : PostEnd). q.taken) new.0.0) (none_taken (suc from) ps es new.1)

-- of no module a line was written
pub all_zeros : (count place : ℕ) → slice_index (replicate count 0) place ≡ 0
all_zeros zero place = refl
all_zeros (suc count) zero = refl
all_zeros (suc count) (suc place) = all_zeros count place

module _ {X Y K : Type 0} where
  abbrev devices_by : List (EarTold X) → List (MouthTold Y) → List (BookTold K) → List (BookTold K) → Devices X Y K
  devices_by ears mouths traces books = record { ears = ears; mouths = mouths; traces = traces; books = books }

  same_parts : (a b : List (EarTold X)) (c d : List (MouthTold Y)) (e f g h : List (BookTold K)) → a ≡ b → c ≡ d → e ≡ f → g ≡ h
      → devices_by a c e g ≡ devices_by b d f h
  same_parts a b c d e f g h ears mouths traces books =
      ap (λ (x : List (EarTold X)). devices_by x c e g) ears ∙ ap (λ (x : List (MouthTold Y)). devices_by b x e g) mouths
      ∙ ap (λ (x : List (BookTold K)). devices_by b d x g) traces ∙ ap (λ (x : List (BookTold K)). devices_by b d f x) books

  same_run : (plan : Plan) (d d' a a' : Devices X Y K) (h h' : Handed) → d ≡ d' → a ≡ a' → h ≡ h'
      → Headline record { plan = plan; before = d; after = a; handed = h } → Headline record { plan = plan; before = d'; after = a'; handed = h' }
  same_run plan d d' a a' h h' before after handed headline =
      subst (λ (x : Handed). Headline record { plan = plan; before = d'; after = a'; handed = x }) handed
      (subst (λ (x : Devices X Y K). Headline record { plan = plan; before = d'; after = x; handed = h }) after
      (subst (λ (x : Devices X Y K). Headline record { plan = plan; before = x; after = a; handed = h }) before headline))

module _ {E M B : Type 0} where
  abbrev pub shelves_by : List E → List M → List (Shelf B) → List (Shelf B) → Kinds E M (Shelf B)
  shelves_by ears mouths traces books = record { ears = ears; mouths = mouths; traces = traces; books = books }

-- where nothing was run, what comes back is what was handed in
module _ {E M B R L : Type 0} where
  pub refused_off : (shelves : Kinds E M (Shelf B)) (traces books : List (Kept B R L)) (refused : Refused E M (Kept B R L)) (back : Refused E M (Shelf B))
      → map plain_of traces ≡ shelves.traces → map plain_of books ≡ shelves.books → (refused.ears.items ≡ shelves.ears) × (refused.mouths.items ≡ shelves.mouths)
      × (refused.traces.items ≡ traces) × (refused.books.items ≡ books) → IsOffRefused refused back → kinds_refused back ≡ shelves
  refused_off shelves traces books refused back over_traces over same off =
      let back_traces = off.traces ∙ ap (map (plain_of {B = B} {R = R} {L = L})) same.2 ∙ over_traces in
      let back_books = off.books ∙ ap (map (plain_of {B = B} {R = R} {L = L})) same.3 ∙ over in
      ap (λ (x : List E). shelves_by x back.mouths.items back.traces.items back.books.items) (off.ears ∙ same.0)
      ∙ ap (λ (x : List M). shelves_by shelves.ears x back.traces.items back.books.items) (off.mouths ∙ same.1)
      ∙ ap (λ (x : List (Shelf B)). shelves_by shelves.ears shelves.mouths x back.books.items) back_traces
      ∙ ap (λ (x : List (Shelf B)). shelves_by shelves.ears shelves.mouths shelves.traces x) back_books

module _ {E M B X Y L : Type 0} (ear : E → EarTold X) (mouth : M → MouthTold Y) (told : B → BookTold L) where
  abbrev told_off : Kinds E M (Shelf B) → Devices X Y (Option L)
  told_off shelves = devices_of ear mouth (told_of_shelf told) shelves

module _ {E M B R X Y L : Type 0} (ear : E → EarTold X) (mouth : M → MouthTold Y) (told : B → BookTold L) where
  abbrev kinds_by : List E → List M → List (Kept B R L) → List (Kept B R L) → Kinds E M (Kept B R L)
  kinds_by ears mouths traces books = record { ears = ears; mouths = mouths; traces = traces; books = books }

  -- what is put in, from what was handed in: traces as they are, and books that post or don't
  pub record ArePut (posts : Bool) (shelves : Kinds E M (Shelf B)) (ps : List PostEnd) (traces books : List (Kept B R L)) : Type 0 where
    pub over_traces : map plain_of traces ≡ shelves.traces
    pub plain_traces : All (IsKept false) traces
    pub over : map plain_of books ≡ shelves.books
    pub posters_are : posters_of books ≡ ps
    pub kept : All (IsKept posts) books

  -- what comes back of the run
  pub record CameBack (posts : Bool) (shelves : Kinds E M (Shelf B)) (ps : List PostEnd) (house : Returned E M (Kept B R L)) : Type 0 where
    pub same : AreSameDevices (told_off ear mouth told shelves) (told_off ear mouth told (shelves_by house.ears.items house.mouths.items (map plain_of house.traces.items) (map plain_of house.books.items)))
    pub trace_count : length house.traces.items ≡ length shelves.traces
    pub book_count : length house.books.items ≡ length shelves.books
    pub kept : All (IsKept posts) house.books.items
    pub ends : AllZip IsSameEnd ps (posters_of house.books.items)
    pub plain_traces : All (IsKept false) house.traces.items

  came_back : (posts : Bool) (shelves : Kinds E M (Shelf B)) (ps : List PostEnd) (traces books : List (Kept B R L)) (house : Returned E M (Kept B R L))
      → ArePut posts shelves ps traces books
      → AreSameDevices (devices_of ear mouth (kept_told told) (kinds_by shelves.ears shelves.mouths traces books)) (devices_of ear mouth (kept_told told) (kinds_back house))
      → CameBack posts shelves ps house
  came_back posts shelves ps traces books house put same =
      let stay = stay_kept told posts house.books.items books same.books put.kept in
      record {
        same = record {
          ears = same.ears;
          mouths = same.mouths;
          traces = subst (λ (l : List (Shelf B)). map (λ (t : BookTold (Option L)). t.device) (map (told_of_shelf told) (map plain_of house.traces.items))
              ≡ map (λ (t : BookTold (Option L)). t.device) (map (told_of_shelf told) l)) put.over_traces (same_off told house.traces.items traces same.traces);
          books = subst (λ (l : List (Shelf B)). map (λ (t : BookTold (Option L)). t.device) (map (told_of_shelf told) (map plain_of house.books.items))
              ≡ map (λ (t : BookTold (Option L)). t.device) (map (told_of_shelf told) l)) put.over (same_off told house.books.items books same.books);
        };
        trace_count = as_many told house.traces.items traces same.traces ∙ length_over traces shelves.traces put.over_traces;
        book_count = as_many told house.books.items books same.books ∙ length_over books shelves.books put.over;
        kept = stay.0;
        ends = subst (λ (l : List PostEnd). AllZip IsSameEnd l (posters_of house.books.items)) put.posters_are stay.1;
        plain_traces = (stay_kept told false house.traces.items traces same.traces put.plain_traces).0;
      }

  -- the run as it shows itself at what was handed in and what is handed back
  pub run_off : OneListStandsWhole → (posts : Bool) (plan : Plan) (shelves : Kinds E M (Shelf B)) (ps posters : List PostEnd) (traces books : List (Kept B R L)) (house : Returned E M (Kept B R L))
      (back : Returned E M (Shelf B)) → ArePut posts shelves ps traces books → CameBack posts shelves ps house → IsOff house back → posters ≡ posters_of house.books.items
      → (posters ≡ []) ⊎ AllZip (IsBack told) back.books.items posters → All (λ poster. poster.taken ≡ []) ps → All (λ shelf. StartsEmpty (told_of_shelf told shelf).written) shelves.books
      → Headline (run_of ear mouth (kept_told told) plan (kinds_by shelves.ears shelves.mouths traces books) house)
      → RanOver plan posters (told_off ear mouth told shelves) (told_off ear mouth told (kinds_back back)) (handed_of back)
  run_off law posts plan shelves ps posters traces books house back put came off named posted untaken empty headline =
      let own = posters_of house.books.items in
      let before_traces = told_traces told traces put.plain_traces ∙ ap (λ (l : List (Shelf B)). map plain_told (map (told_of_shelf told) l)) put.over_traces in
      let before_books = told_kept told posts books put.kept ∙ ap (λ (l : List PostEnd). posting_each l (map (told_of_shelf told) (map plain_of books))) put.posters_are
      ∙ ap (λ (l : List (Shelf B)). posting_each ps (map (told_of_shelf told) l)) put.over ∙ same_posting ps own (map (told_of_shelf told) shelves.books) came.ends untaken
      ∙ ap (λ (l : List PostEnd). posting_each (map unposted l) (map (told_of_shelf told) shelves.books)) (sym named) in
      let after_traces = told_traces told house.traces.items came.plain_traces ∙ sym (ap (λ (l : List (Shelf B)). map plain_told (map (told_of_shelf told) l)) off.traces) in
      let after_books = told_kept told posts house.books.items came.kept ∙ sym (ap (λ (l : List (Shelf B)). posting_each own (map (told_of_shelf told) l)) off.books)
      ∙ ap (λ (l : List PostEnd). posting_each l (map (told_of_shelf told) back.books.items)) (sym named) in
      let shown = same_run plan _ _ _ _ _ _
      (same_parts (map ear shelves.ears) (map ear shelves.ears) (map mouth shelves.mouths) (map mouth shelves.mouths) _ _ _ _ refl refl before_traces before_books)
      (same_parts _ _ _ _ _ _ _ _ (sym (ap (map ear) off.ears)) (sym (ap (map mouth) off.mouths)) after_traces after_books)
      (sym off.handed) headline in
      let whole = posted_whole told back.books.items posters posted in
      record {
        headline = shown;
        same_devices = subst (λ (d : Devices X Y (Option L)). AreSameDevices (told_off ear mouth told shelves) d)
            (same_parts _ _ _ _ _ _ _ _ (sym (ap (map ear) off.ears)) (sym (ap (map mouth) off.mouths)) (sym (ap (map (told_of_shelf told)) off.traces)) (sym (ap (map (told_of_shelf told)) off.books))) came.same;
        posted = record {
          whole = whole;
          of_trails = of_trail law _ _ posters (map (told_of_shelf told) shelves.books) (map (told_of_shelf told) back.books.items) shown.carried_out.judged.written refl refl
              (length-map back.books.items (told_of_shelf told) ∙ ap length off.books ∙ length-map house.books.items plain_of ∙ came.book_count ∙ sym (length-map shelves.books (told_of_shelf told)))
              (All-map (λ (book : BookTold (Option L)). StartsEmpty book.written) (told_of_shelf told) shelves.books empty) whole;
        };
      }

  -- what came back, as the headline tells it
  pub came_of : DevicesStay X Y (KeptLabel L) → (posts : Bool) (plan : Plan) (shelves : Kinds E M (Shelf B)) (ps : List PostEnd) (traces books : List (Kept B R L)) (house : Returned E M (Kept B R L))
      → ArePut posts shelves ps traces books → length shelves.mouths ≡ length shelves.ears → length shelves.traces ≡ length shelves.ears → length shelves.books ≡ module_count plan
      → Headline (run_of ear mouth (kept_told told) plan (kinds_by shelves.ears shelves.mouths traces books) house) → CameBack posts shelves ps house
  came_of stay posts plan shelves ps traces books house put mouths trace_count book_count headline =
      let of_ears = length-map shelves.ears ear in
      let of_traces = length-map traces (kept_told told) ∙ length_over traces shelves.traces put.over_traces ∙ trace_count ∙ sym of_ears in
      let of_books = length-map books (kept_told told) ∙ length_over books shelves.books put.over ∙ book_count in
      came_back posts shelves ps traces books house put (stay _ headline (length-map shelves.mouths mouth ∙ mouths ∙ sym of_ears) of_traces of_books)

-- it was as it is before its thread begins
module _ {B R : Type 0} where
  pub is_fresh : (j : Watch B R) (count : ℕ) → j.failed ≡ false → j.last.items ≡ replicate count 0 → IsFresh j
  is_fresh j count going zeros = record {
    going = going;
    none = λ place. subst (λ (l : List ℕ). slice_index l place ≡ 0) (sym zeros) (all_zeros count place);
  }

-- what the watch has in the end
module _ {B R L : Type 0} (told : B → BookTold L) where
  pub ended_numbers : NumbersRise R told → (j k : Watch B R) → WatchDid told j k → j.failed ≡ false → length k.last.items ≡ length j.last.items
  ended_numbers rise j k did going = (rise j k did going).1.as_many

-- the eyes are of one board with the posters that come back
pub ended_board : (ps qs : List PostEnd) (eyes : List EyeEnd) → AllZip IsSameEnd ps qs → AreOfOneBoard ps eyes → AreOfOneBoard qs eyes
ended_board ps qs eyes same board = same_board ps qs eyes same board

-- as many
pub same_count : (ps qs : List PostEnd) → AllZip IsSameEnd ps qs → length qs ≡ length ps
same_count [] [] same = refl
same_count [] (q ∷ qs) same = absurd same
same_count (p ∷ ps) [] same = absurd same
same_count (p ∷ ps) (q ∷ qs) same = ap suc (same_count ps qs same.1)

-- posters of a board that has none
pub none_same : (ps qs : List PostEnd) → ps ≡ [] → AllZip IsSameEnd ps qs → qs ≡ []
none_same [] [] none same = refl
none_same [] (q ∷ qs) none same = absurd same
none_same (p ∷ ps) qs none same = absurd (let e = none in cc)

apart : Crew ≡ NoMemory → ⊥
apart same = let e = same in cc

module _ {T E : Type 0} where
  pub err_says : (P Q : E → Type 0) (r : Result T E) → ((e : E) → P e → Q e) → IfErr r P → IfErr r Q
  err_says P Q (Ok v) says h = tt
  err_says P Q (Err e) says h = says e h

module _ {B L : Type 0} (told : B → BookTold L) where
  pub not_memory : (why : HouseRefusal) (empty : BookTold L) (lines : Option B) → LinesBack why (Some empty) (option_map told lines) → lines ≡ None → why ≡ NoMemory → ⊥
  not_memory why empty (Some b) back none memory = absurd (let e = none in cc)
  not_memory why empty None back none memory = apart (sym back ∙ memory)
