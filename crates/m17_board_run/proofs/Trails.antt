-- What was posted of each module is the records of its trail.
use Rattle.std.proofs.Common.{◌≡◌, ◌⊎◌, ℕ, zero, suc, ◌<◌, Bool, true, false, List, [], ◌∷◌, ◌++◌, map, length, All, Option, None, Some, slice_get, refl, sym, ap, ap₂, subst, ◌∙◌, arith, inl, inr}
use Rattle.std.specs.List.{AllZip}
use Rattle.std.proofs.lemmas.Option.{same_Some, none-some}
use Rattle.std.proofs.lemmas.List.Elements.{All-head, All-tail}
use Rattle.m17_lists.proofs.Places.{mapped_stands_there}
use Rattle.m17_ports.specs.Book.{BookTold, HasText}
use Rattle.m17_ports.specs.Told.{StartsEmpty, told_then}
use Rattle.m17_ports.specs.declared.shelf.Shelf.{Shelf}
use Rattle.m17_control.specs.declared.event.Event.{Event}
use Rattle.m17_lane.specs.Ends.{TrailEnd}
use Rattle.m17_board.specs.Ends.{PostEnd}
use Rattle.m17_book.specs.Book.{HasBookForm}
use Rattle.m17_book.specs.declared.head.Head.{Head}
use Rattle.m17_book.specs.declared.record.Record.{Record}
use Rattle.m17_book.specs.declared.version.Version.TheVariants.{Two}
use Rattle.m17_board.specs.Kept.{told_or, unposted}
use Rattle.m17_board.specs.Laws.{OneListStandsWhole}
use Rattle.m17_worker.specs.Records.{book_text, records_of}
use Rattle.m17_reflect.specs.Judged.{AreWritten, head_at}
use Rattle.m17_reflect.specs.Links.{At, Link, setup_at}
use Rattle.m17_reflect.specs.Run.{Run}
use Rattle.m17_reflect.specs.Trails.{events_of}
use Rattle.m17_board_run.specs.Boarded.{IsPosted}
use Rattle.m17_board_run.specs.Kept.{posting_each, posting_told, told_of_shelf}
use Rattle.m17_board_run.specs.Putting.{IsBack}
use Rattle.m17_board_run.specs.declared.kept.KeptLabel.{KeptLabel}
use Rattle.m17_board_run.proofs.Books.{or_empty}

-- one place of lists
place_in : {A : Type 0} (xs : List A) (m : ℕ) → m < length xs → (x : A) × (slice_get xs m ≡ Some x)
place_in [] m lt = absurd (omega arith)
place_in (x ∷ xs) zero lt = (x, refl)
place_in (x ∷ xs) (suc m) lt = place_in xs m (omega arith)

place_below : {A : Type 0} (xs : List A) (m : ℕ) (x : A) → slice_get xs m ≡ Some x → m < length xs
place_below [] m x at = absurd (none-some x at)
place_below (y ∷ xs) zero x at = omega arith
place_below (y ∷ xs) (suc m) x at = let lt = place_below xs m x at in omega arith

pub place_all : {A : Type 0} (P : A → Type 0) (xs : List A) (m : ℕ) (x : A) → All P xs → slice_get xs m ≡ Some x → P x
place_all P [] m x all at = absurd (none-some x at)
place_all P (y ∷ xs) zero x all at = subst P (same_Some y x at) (All-head P y xs all)
place_all P (y ∷ xs) (suc m) x all at = place_all P xs m x (All-tail P y xs all) at

module _ {L : Type 0} where
  -- the book with the poster over it, at its place
  over_at : (ps : List PostEnd) (books : List (BookTold (Option L))) (m : ℕ) (p : PostEnd) (book : BookTold (Option L)) → slice_get ps m ≡ Some p → slice_get books m ≡ Some book
      → slice_get (posting_each ps books) m ≡ Some (posting_told p book)
  over_at [] books m p book at at' = absurd (none-some p at)
  over_at (q ∷ ps) [] m p book at at' = absurd (none-some book at')
  over_at (q ∷ ps) (b ∷ books) zero p book at at' =
      ap₂ (λ (x : PostEnd) (y : BookTold (Option L)). Some (posting_told x y)) (same_Some q p at) (same_Some b book at')
  over_at (q ∷ ps) (b ∷ books) (suc m) p book at at' = over_at ps books m p book at at'

-- a book that was empty, tells its bytes and never failed tells the whole text
told_is : (o : Option (List ℕ)) (text bytes : List ℕ) → StartsEmpty o → told_then o text ≡ Some bytes → bytes ≡ text
told_is None text bytes empty e = absurd (none-some bytes e)
told_is (Some all) text bytes empty e = sym (same_Some (all ++ text) bytes e) ∙ ap (λ l. l ++ text) (empty all refl)

text_is : {L : Type 0} (before after : BookTold L) (text bytes : List ℕ) (failed : Bool) → HasText before text failed after → StartsEmpty before.written → after.written ≡ Some bytes
    → after.faults ≡ 0 → bytes ≡ text
text_is before after text bytes true h empty is sound = let cut = h.cut refl in absurd (omega (arith, cut.2, sound))
text_is before after text bytes false h empty is sound = told_is before.written text bytes empty (sym (h.whole refl).0 ∙ is)

module _ {B L : Type 0} (told : B → BookTold L) where
  whole_of : (shelves : List (Shelf B)) (posters : List PostEnd) → AllZip (IsBack told) shelves posters → (m : ℕ) (book : BookTold (Option L)) (poster : PostEnd)
      → At (map (told_of_shelf told) shelves) m book → At posters m poster → IsPosted book poster
  whole_of [] posters all m book poster at at' = absurd (none-some book at)
  whole_of (shelf ∷ shelves) [] all m book poster at at' = absurd (none-some poster at')
  whole_of (shelf ∷ shelves) (p ∷ posters) all zero book poster at at' =
      subst (λ (b : BookTold (Option L)). IsPosted b poster) (same_Some (told_of_shelf told shelf) book at)
      (subst (λ (q : PostEnd). IsPosted (told_of_shelf told shelf) q) (same_Some p poster at') all.0)
  whole_of (shelf ∷ shelves) (p ∷ posters) all (suc m) book poster at at' = whole_of shelves posters all.1 m book poster at at'

  -- what was posted stands whole in the bytes of each book that was posted at
  pub posted_whole : (shelves : List (Shelf B)) (posters : List PostEnd) → (posters ≡ []) ⊎ AllZip (IsBack told) shelves posters → (m : ℕ) (book : BookTold (Option L)) (poster : PostEnd)
      → At (map (told_of_shelf told) shelves) m book → At posters m poster → IsPosted book poster
  posted_whole shelves posters (inl none) m book poster at at' = absurd (none-some poster (sym (ap (λ l. slice_get l m) none) ∙ at'))
  posted_whole shelves posters (inr all) m book poster at at' = whole_of shelves posters all m book poster at at'

-- a book that posts tells bytes in any case
tells : (o : Option (List ℕ)) (taken : List ℕ) → (bytes : List ℕ) × (told_or o taken ≡ Some bytes)
tells None taken = (taken, refl)
tells (Some bytes) taken = (bytes, refl)

module _ {L X Y : Type 0} (law : OneListStandsWhole) where
  -- and that is the records of its trail
  pub of_trail : (run : Run X Y (KeptLabel L)) (links : List Link) (posters : List PostEnd) (olds news : List (BookTold (Option L))) → AreWritten run links
      → run.before.books ≡ posting_each (map unposted posters) olds → run.after.books ≡ posting_each posters news
      → length news ≡ length olds → All (λ book. StartsEmpty book.written) olds
      → ((m : ℕ) (book : BookTold (Option L)) (poster : PostEnd) → At news m book → At posters m poster → IsPosted book poster)
      → (m : ℕ) (after : BookTold (Option L)) (trail : TrailEnd Event) (poster : PostEnd) → At news m after → At run.handed.trails m trail → At posters m poster
      → after.faults ≡ 0 → poster.posted ≡ records_of (setup_at run.plan m) (events_of trail)
  of_trail run links posters olds news written were are many empty whole m after trail poster at_after at_trail at_poster sound =
      let inside = place_below news m after at_after in
      let (before, at_before) = place_in olds m (omega (arith, inside, many)) in
      let head : Head = head_at run.plan m in
      let records : List Record = records_of (setup_at run.plan m) (events_of trail) in
      let (bytes, is) = tells after.written poster.taken in
      let was : At run.before.books m (posting_told (unposted poster) before) =
      ap (λ l. slice_get l m) were ∙ over_at (map unposted posters) olds m (unposted poster) before (mapped_stands_there unposted posters m poster at_poster) at_before in
      let now : At run.after.books m (posting_told poster after) =
      ap (λ l. slice_get l m) are ∙ over_at posters news m poster after at_poster at_after in
      let wrote = written.books m trail (posting_told (unposted poster) before) (posting_told poster after) at_trail was now in
      let same : bytes ≡ book_text head records =
      text_is (posting_told (unposted poster) before) (posting_told poster after) (book_text head records) bytes wrote.0 wrote.1
      (or_empty before.written [] refl (place_all (λ book. StartsEmpty book.written) olds m before empty at_before)) is sound in
      let form = written.spelled m trail (posting_told poster after) bytes at_trail now is in
      law.whole bytes head records poster.posted (subst (λ (b : List ℕ). HasBookForm Two b head records) (sym same) form)
      (whole m after poster at_after at_poster bytes is sound)
