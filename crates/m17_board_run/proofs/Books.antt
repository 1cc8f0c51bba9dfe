-- What is told of the books of a run with a board.
use Rattle.std.proofs.Common.{◌≡◌, ℕ, suc, Bool, true, false, List, [], ◌∷◌, ◌++◌, map, length, All, Option, None, Some, refl, sym, ap, ap₂, subst, ◌∙◌}
use Rattle.std.specs.List.{AllZip}
use Rattle.std.proofs.lemmas.Option.{same_Some}
use Rattle.std.proofs.lemmas.List.Elements.{All-cons, All-head, All-tail, All-nil}
use Rattle.m17_ports.specs.Book.{BookTold}
use Rattle.m17_ports.specs.Marks.{Device}
use Rattle.m17_ports.specs.Told.{StartsEmpty}
use Rattle.m17_ports.specs.declared.shelf.Shelf.{Shelf}
use Rattle.m17_board.specs.Ends.{AreOfOneBoard, EyeEnd, PostEnd}
use Rattle.m17_board.specs.Kept.{BoardKept, told_or, unposted}
use Rattle.m17_board.specs.declared.board_book.BoardLabel.{BoardLabel}
use Rattle.m17_board_run.specs.Kept.{kept_told, plain_told, posting_each, told_of_shelf}
use Rattle.m17_board_run.specs.Putting.{IsKept, IsPosting, IsSameEnd, plain, plain_of, posters_of}
use Rattle.m17_board_run.specs.declared.kept.Kept.{Kept}
use Rattle.m17_board_run.specs.declared.kept.Kept.TheVariants as kept
use Rattle.m17_board_run.specs.declared.kept.KeptLabel.{KeptLabel}
use Rattle.m17_board_run.specs.declared.kept.KeptLabel.TheVariants.{Plain, Posting}

module _ (B R L : Type 0) where
  pub plain_all : (shelves : List (Shelf B)) → map (plain_of {B = B} {R = R} {L = L}) (map (plain {B = B} {R = R} {L = L}) shelves) ≡ shelves
  plain_all [] = refl
  plain_all (shelf ∷ shelves) = ap (λ (l : List (Shelf B)). shelf ∷ l) (plain_all shelves)

  -- none of them posts
  pub all_plain : (shelves : List (Shelf B)) → All (IsKept {B = B} {R = R} {L = L} false) (map (plain {B = B} {R = R} {L = L}) shelves)
  all_plain [] = All-nil (IsKept {B = B} {R = R} {L = L} false)
  all_plain (shelf ∷ shelves) =
      All-cons (IsKept {B = B} {R = R} {L = L} false) (kept.Plain shelf) (map (plain {B = B} {R = R} {L = L}) shelves) tt (all_plain shelves)

module _ {B R L : Type 0} where
  pub posters_none : (some : List (Kept B R L)) → All (IsKept false) some → posters_of some ≡ []
  posters_none [] all = refl
  posters_none (kept.Plain shelf ∷ some) all = posters_none some (All-tail (IsKept false) (kept.Plain shelf) some all)
  posters_none (kept.Posting book ∷ some) all = absurd (All-head (IsKept false) (kept.Posting book) some all)

  pub none_take : (some : List (Kept B R L)) → All (IsKept false) some → All (λ poster. poster.taken ≡ []) (posters_of some)
  none_take some all = subst (All (λ (p : PostEnd). p.taken ≡ [])) (sym (posters_none some all)) (All-nil (λ (p : PostEnd). p.taken ≡ []))

  -- shelves that are put as they are
  pub over_plain : (some : List (Kept B R L)) (shelves : List (Shelf B)) → some ≡ map plain shelves → map plain_of some ≡ shelves
  over_plain some shelves are = ap (map plain_of) are ∙ plain_all B R L shelves

  pub kept_plain : (some : List (Kept B R L)) (shelves : List (Shelf B)) → some ≡ map plain shelves → All (IsKept false) some
  kept_plain some shelves are = subst (All (IsKept false)) (sym are) (all_plain B R L shelves)

module _ {B R L : Type 0} where
  pub posters_push : (some : List (Kept B R L)) (book : BoardKept (Shelf B)) → posters_of (some ++ kept.Posting book ∷ []) ≡ posters_of some ++ book.poster ∷ []
  posters_push [] book = refl
  posters_push (kept.Plain shelf ∷ some) book = posters_push some book
  posters_push (kept.Posting one ∷ some) book = ap (λ (l : List PostEnd). one.poster ∷ l) (posters_push some book)

  pub posters_count : (some : List (Kept B R L)) → All IsPosting some → length (posters_of some) ≡ length some
  posters_count [] all = refl
  posters_count (kept.Plain shelf ∷ some) all = absurd (All-head IsPosting (kept.Plain shelf) some all)
  posters_count (kept.Posting one ∷ some) all = ap suc (posters_count some (All-tail IsPosting (kept.Posting one) some all))

  -- there are as many as shelves
  pub length_over : (some : List (Kept B R L)) (shelves : List (Shelf B)) → map plain_of some ≡ shelves → length some ≡ length shelves
  length_over [] [] over = refl
  length_over [] (s ∷ shelves) over = absurd (let e = over in cc)
  length_over (one ∷ some) [] over = absurd (let e = over in cc)
  length_over (one ∷ some) (s ∷ shelves) over = ap suc (length_over some shelves (let e = over in cc))

-- what tells nothing yet, or took nothing
pub or_empty : (o : Option (List ℕ)) (taken : List ℕ) → taken ≡ [] → StartsEmpty o → StartsEmpty (told_or o taken)
or_empty None taken none empty all is = sym (same_Some taken all is) ∙ none
or_empty (Some told) taken none empty all is = empty all is

module _ {B R L : Type 0} where
  first_taken : (one : Kept B R L) (some : List (Kept B R L)) → All (λ poster. poster.taken ≡ []) (posters_of (one ∷ some)) → All (λ poster. poster.taken ≡ []) (posters_of (one ∷ []))
  first_taken (kept.Plain shelf) some all = All-nil (λ (p : PostEnd). p.taken ≡ [])
  first_taken (kept.Posting book) some all =
      All-cons (λ (p : PostEnd). p.taken ≡ []) book.poster [] (All-head (λ (p : PostEnd). p.taken ≡ []) book.poster (posters_of some) all) (All-nil (λ (p : PostEnd). p.taken ≡ []))

  others_taken : (one : Kept B R L) (some : List (Kept B R L)) → All (λ poster. poster.taken ≡ []) (posters_of (one ∷ some)) → All (λ poster. poster.taken ≡ []) (posters_of some)
  others_taken (kept.Plain shelf) some all = all
  others_taken (kept.Posting book) some all = All-tail (λ (p : PostEnd). p.taken ≡ []) book.poster (posters_of some) all

module _ {L : Type 0} where
  -- the device of a shelf
  abbrev off_label : KeptLabel L → Option L
  off_label (Plain label) = label
  off_label (Posting label) = label.inner

  abbrev off_device : Device ℕ (KeptLabel L) → Device ℕ (Option L)
  off_device device = record { mark = device.mark; label = off_label device.label }

module _ {B R L : Type 0} (told : B → BookTold L) where
  one_fresh : (one : Kept B R L) → All (λ poster. poster.taken ≡ []) (posters_of (one ∷ [])) → StartsEmpty (told_of_shelf told (plain_of one)).written → StartsEmpty (kept_told told one).written
  one_fresh (kept.Plain shelf) untaken empty = empty
  one_fresh (kept.Posting book) untaken empty =
      or_empty (told_of_shelf told book.inner).written book.poster.taken (All-head (λ (p : PostEnd). p.taken ≡ []) book.poster [] untaken) empty

  -- nothing is written in books over shelves in which nothing is written
  all_fresh : (some : List (Kept B R L)) → All (λ poster. poster.taken ≡ []) (posters_of some) → All (λ shelf. StartsEmpty (told_of_shelf told shelf).written) (map plain_of some)
      → All (λ one. StartsEmpty (kept_told told one).written) some
  all_fresh [] untaken empty = All-nil (λ one. StartsEmpty (kept_told told one).written)
  all_fresh (one ∷ some) untaken empty =
      All-cons (λ one. StartsEmpty (kept_told told one).written) one some
      (one_fresh one (first_taken one some untaken) (All-head (λ shelf. StartsEmpty (told_of_shelf told shelf).written) (plain_of one) (map plain_of some) empty))
      (all_fresh some (others_taken one some untaken) (All-tail (λ shelf. StartsEmpty (told_of_shelf told shelf).written) (plain_of one) (map plain_of some) empty))

  pub fresh_over : (some : List (Kept B R L)) (shelves : List (Shelf B)) → map plain_of some ≡ shelves → All (λ poster. poster.taken ≡ []) (posters_of some) → All (λ shelf. StartsEmpty (told_of_shelf told shelf).written) shelves
      → All (λ one. StartsEmpty (kept_told told one).written) some
  fresh_over some shelves over untaken empty = all_fresh some untaken (subst (All (λ shelf. StartsEmpty (told_of_shelf told shelf).written)) (sym over) empty)

  -- books tell what their shelves do, with their posters
  pub posting_books : (some : List (Kept B R L)) → All IsPosting some
      → map (kept_told told) some ≡ posting_each (posters_of some) (map (told_of_shelf told) (map plain_of some))
  posting_books [] all = refl
  posting_books (kept.Plain shelf ∷ some) all = absurd (All-head IsPosting (kept.Plain shelf) some all)
  posting_books (kept.Posting book ∷ some) all =
      ap (λ (l : List (BookTold (KeptLabel L))). kept_told {R = R} told (kept.Posting book) ∷ l) (posting_books some (All-tail IsPosting (kept.Posting book) some all))

  -- those that don't post tell what their shelves do
  told_plain : (some : List (Kept B R L)) → All (IsKept false) some
      → map (kept_told told) some ≡ map plain_told (map (told_of_shelf told) (map plain_of some))
  told_plain [] all = refl
  told_plain (kept.Plain shelf ∷ some) all =
      ap (λ (l : List (BookTold (KeptLabel L))). plain_told (told_of_shelf told shelf) ∷ l) (told_plain some (All-tail (IsKept false) (kept.Plain shelf) some all))
  told_plain (kept.Posting book ∷ some) all = absurd (All-head (IsKept false) (kept.Posting book) some all)

  pub told_kept : (posts : Bool) (some : List (Kept B R L)) → All (IsKept posts) some
      → map (kept_told told) some ≡ posting_each (posters_of some) (map (told_of_shelf told) (map plain_of some))
  told_kept true some all = posting_books some all
  told_kept false some all =
      told_plain some all ∙ sym (ap (λ (l : List PostEnd). posting_each l (map (told_of_shelf told) (map plain_of some))) (posters_none some all))

  pub told_traces : (some : List (Kept B R L)) → All (IsKept false) some
      → map (kept_told told) some ≡ map plain_told (map (told_of_shelf told) (map plain_of some))
  told_traces some all = told_plain some all

  -- their shelves, as devices
  pub off_all : (some : List (Kept B R L)) → map off_device (map (λ book. book.device) (map (kept_told told) some))
      ≡ map (λ book. book.device) (map (told_of_shelf told) (map plain_of some))
  off_all [] = refl
  off_all (kept.Plain shelf ∷ some) = ap (λ (l : List (Device ℕ (Option L))). (told_of_shelf told shelf).device ∷ l) (off_all some)
  off_all (kept.Posting book ∷ some) = ap (λ (l : List (Device ℕ (Option L))). (told_of_shelf told book.inner).device ∷ l) (off_all some)

same_unposted : (p q : PostEnd) → IsSameEnd p q → unposted p ≡ unposted q
same_unposted p q same =
    ap (λ x. record { cell = x; number = p.number; posted = []; taken = [] }) same.cell ∙ ap (λ x. record { cell = q.cell; number = x; posted = []; taken = [] }) same.number

abbrev posting_by : {L : Type 0} → PostEnd → List ℕ → BookTold (Option L) → BookTold (KeptLabel L)
posting_by end taken book = record {
  written = told_or book.written taken;
  faults = book.faults;
  device = record { mark = book.device.mark; label = Posting record { inner = book.device.label; poster = end } };
}

module _ {L : Type 0} where
  -- What is told of books with posters whose books took nothing is told with any others of the same board, before they posted.
  pub same_posting : (ps qs : List PostEnd) (books : List (BookTold (Option L))) → AllZip IsSameEnd ps qs → All (λ poster. poster.taken ≡ []) ps → posting_each ps books ≡ posting_each (map unposted qs) books
  same_posting [] [] books same untaken = refl
  same_posting [] (q ∷ qs) books same untaken = absurd same
  same_posting (p ∷ ps) [] books same untaken = absurd same
  same_posting (p ∷ ps) (q ∷ qs) [] same untaken = refl
  same_posting (p ∷ ps) (q ∷ qs) (book ∷ books) same untaken =
      ap₂ (λ (x : BookTold (KeptLabel L)) (xs : List (BookTold (KeptLabel L))). x ∷ xs)
      (ap (λ (taken : List ℕ). posting_by (unposted p) taken book) (All-head (λ (poster : PostEnd). poster.taken ≡ []) p ps untaken) ∙ ap (λ (end : PostEnd). posting_by end [] book) (same_unposted p q same.0))
      (same_posting ps qs books same.1 (All-tail (λ (poster : PostEnd). poster.taken ≡ []) p ps untaken))

-- eyes are of one board with each of these
pub same_board : (ps qs : List PostEnd) (eyes : List EyeEnd) → AllZip IsSameEnd ps qs → AreOfOneBoard ps eyes → AreOfOneBoard qs eyes
same_board [] [] eyes same board = board
same_board [] (q ∷ qs) eyes same board = absurd same
same_board (p ∷ ps) [] eyes same board = absurd same
same_board (p ∷ ps) (q ∷ qs) [] same board = board
same_board (p ∷ ps) (q ∷ qs) (e ∷ eyes) same board =
    ((board.0.0 ∙ same.0.cell, board.0.1 ∙ same.0.number), same_board ps qs eyes same.1 board.1)

module _ {L : Type 0} where
  same_head : (a b : BookTold (KeptLabel L)) (xs ys : List (BookTold (KeptLabel L))) → map (λ told. told.device) (a ∷ xs) ≡ map (λ told. told.device) (b ∷ ys) → a.device ≡ b.device
  same_head a b xs ys same = cc

  same_tail : (a b : BookTold (KeptLabel L)) (xs ys : List (BookTold (KeptLabel L))) → map (λ told. told.device) (a ∷ xs) ≡ map (λ told. told.device) (b ∷ ys)
      → map (λ told. told.device) xs ≡ map (λ told. told.device) ys
  same_tail a b xs ys same = cc

  -- the poster that a label names
  abbrev poster_in : PostEnd → KeptLabel L → PostEnd
  poster_in other (Plain label) = other
  poster_in other (Posting label) = label.poster

  labels_apart : (a b : BookTold (KeptLabel L)) (label : Option L) (other : BoardLabel (Option L)) → a.device.label ≡ Plain label → b.device.label ≡ Posting other → a.device ≡ b.device → ⊥
  labels_apart a b label other is is' same = let plain_is : Plain label ≡ Posting other = sym is ∙ ap (λ (d : Device ℕ (KeptLabel L)). d.label) same ∙ is' in cc

module _ {B R L : Type 0} (told : B → BookTold L) where
  abbrev AreSame : List (Kept B R L) → List (Kept B R L) → Type 0
  AreSame now was = map (λ (t : BookTold (KeptLabel L)). t.device) (map (kept_told told) now) ≡ map (λ (t : BookTold (KeptLabel L)). t.device) (map (kept_told told) was)

  pub as_many : (now was : List (Kept B R L)) → AreSame now was → length now ≡ length was
  as_many [] [] same = refl
  as_many [] (w ∷ was) same = absurd (let e = same in cc)
  as_many (n ∷ now) [] same = absurd (let e = same in cc)
  as_many (n ∷ now) (w ∷ was) same =
      ap suc (as_many now was (same_tail (kept_told told n) (kept_told told w) (map (kept_told told) now) (map (kept_told told) was) same))

  -- books that are the same devices as books that post do so, and their posters are of the same board
  stay_posting : (now was : List (Kept B R L)) → AreSame now was → All IsPosting was → All IsPosting now × AllZip IsSameEnd (posters_of was) (posters_of now)
  stay_posting [] [] same all = (All-nil IsPosting, tt)
  stay_posting [] (w ∷ was) same all = absurd (let e = same in cc)
  stay_posting (n ∷ now) [] same all = absurd (let e = same in cc)
  stay_posting (n ∷ now) (kept.Plain shelf ∷ was) same all = absurd (All-head IsPosting (kept.Plain shelf) was all)
  stay_posting (kept.Plain shelf ∷ now) (kept.Posting w ∷ was) same all =
      absurd (labels_apart (kept_told {R = R} told (kept.Plain shelf)) (kept_told {R = R} told (kept.Posting w)) _ _ refl refl
      (same_head (kept_told {R = R} told (kept.Plain shelf)) (kept_told {R = R} told (kept.Posting w)) (map (kept_told told) now) (map (kept_told told) was) same))
  stay_posting (kept.Posting n ∷ now) (kept.Posting w ∷ was) same all =
      let first = same_head (kept_told {R = R} told (kept.Posting n)) (kept_told {R = R} told (kept.Posting w)) (map (kept_told told) now) (map (kept_told told) was) same in
      let end : unposted n.poster ≡ unposted w.poster = ap (λ (d : Device ℕ (KeptLabel L)). poster_in n.poster d.label) first in
      let rest = stay_posting now was (same_tail (kept_told {R = R} told (kept.Posting n)) (kept_told {R = R} told (kept.Posting w)) (map (kept_told told) now) (map (kept_told told) was) same)
      (All-tail IsPosting (kept.Posting w) was all) in (
        All-cons IsPosting (kept.Posting n) now tt rest.0,
        (record { cell = sym (ap (λ (p : PostEnd). p.cell) end); number = sym (ap (λ (p : PostEnd). p.number) end) }, rest.1),
      )

  -- those that are the same devices as some that don't post don't post
  stay_plain : (now was : List (Kept B R L)) → AreSame now was → All (IsKept false) was → All (IsKept false) now
  stay_plain [] was same all = All-nil (IsKept false)
  stay_plain (n ∷ now) [] same all = absurd (let e = same in cc)
  stay_plain (n ∷ now) (kept.Posting book ∷ was) same all = absurd (All-head (IsKept false) (kept.Posting book) was all)
  stay_plain (kept.Plain own ∷ now) (kept.Plain shelf ∷ was) same all =
      All-cons (IsKept false) (kept.Plain own) now tt
      (stay_plain now was (same_tail (kept_told {R = R} told (kept.Plain own)) (kept_told {R = R} told (kept.Plain shelf)) (map (kept_told told) now) (map (kept_told told) was) same)
      (All-tail (IsKept false) (kept.Plain shelf) was all))
  stay_plain (kept.Posting book ∷ now) (kept.Plain shelf ∷ was) same all =
      absurd (labels_apart (kept_told {R = R} told (kept.Plain shelf)) (kept_told {R = R} told (kept.Posting book)) _ _ refl refl
      (sym (same_head (kept_told {R = R} told (kept.Posting book)) (kept_told {R = R} told (kept.Plain shelf)) (map (kept_told told) now) (map (kept_told told) was) same)))

  pub stay_kept : (posts : Bool) (now was : List (Kept B R L)) → AreSame now was → All (IsKept posts) was
      → All (IsKept posts) now × AllZip IsSameEnd (posters_of was) (posters_of now)
  stay_kept true now was same all = stay_posting now was same all
  stay_kept false now was same all = let stay = stay_plain now was same all in (
    stay,
    subst (λ (l : List PostEnd). AllZip IsSameEnd (posters_of was) l) (sym (posters_none now stay))
        (subst (λ (l : List PostEnd). AllZip IsSameEnd l []) (sym (posters_none was all)) tt),
  )

  -- their shelves are the same devices
  pub same_off : (now was : List (Kept B R L)) → AreSame now was
      → map (λ (t : BookTold (Option L)). t.device) (map (told_of_shelf told) (map plain_of now)) ≡ map (λ (t : BookTold (Option L)). t.device) (map (told_of_shelf told) (map plain_of was))
  same_off now was same = sym (off_all told now) ∙ ap (map off_device) same ∙ off_all told was
