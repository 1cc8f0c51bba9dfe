-- The books that `serve` hands back are legal.
use Rattle.std.proofs.Common.{◌≡◌, ℕ, zero, suc, ◌<◌, List, [], ◌∷◌, map, length, Option, None, Some, refl, sym, ap, ◌∙◌, subst, arith}
use Rattle.std.specs.Prelude.{slice_get}
use Rattle.std.proofs.lemmas.List.{length-map}
use Rattle.std.proofs.lemmas.Option.{none-some, same_Some, slice_get_within}
use Rattle.m17_lists.proofs.Places.{each_place_has_one}
use Rattle.m17_io.specs.Faults.{HasRisen}
use Rattle.m17_ports.specs.Book.{BookTold}
use Rattle.m17_ports.specs.Told.{StartsEmpty}
use Rattle.m17_board.specs.Ends.{PostEnd}
use Rattle.m17_board.specs.Kept.{told_or, unposted}
use Rattle.m17_board_run.specs.Kept.{plain_told, posting_each}
use Rattle.m17_board_run.specs.declared.kept.KeptLabel.{KeptLabel}
use Rattle.m17_laws.specs.LegalBooksLaws.{BooksOfRunsAreLegal, BooksOfServeAreLegal}
use Rattle.m17_serve.specs.Served.{run_told}

-- a count that is 0 before and after didn't rise
stands : (before after : ℕ) → before ≡ 0 → after ≡ 0 → ¬ HasRisen before after
stands before after b a risen = omega (arith, b, a, risen)

-- A book, with the poster over it, if there is one: it tells the bytes that the book tells, and nothing yet where the book does
-- and took nothing.
record IsOver {L : Type 0} (book : BookTold (Option L)) (over : BookTold (KeptLabel L)) : Type 0 where
  written : (bytes : List ℕ) → book.written ≡ Some bytes → over.written ≡ Some bytes
  faults : over.faults ≡ book.faults

record StartsOver {L : Type 0} (book : BookTold (Option L)) (over : BookTold (KeptLabel L)) : Type 0 where
  starts : StartsEmpty book.written → StartsEmpty over.written
  faults : over.faults ≡ book.faults

-- what tells nothing yet, over a book that took nothing
or_none : (o : Option (List ℕ)) → StartsEmpty o → StartsEmpty (told_or o [])
or_none None empty all is = sym (same_Some [] all is)
or_none (Some told) empty all is = empty all is

module _ {L : Type 0} where
  plain_at : (books : List (BookTold (Option L))) (m : ℕ) (book : BookTold (Option L)) → slice_get books m ≡ Some book
      → (over : BookTold (KeptLabel L)) × (slice_get (map plain_told books) m ≡ Some over) × IsOver book over × StartsOver book over
  plain_at [] m book at = absurd (none-some book at)
  plain_at (b ∷ books) zero book at =
      let own = same_Some b book at in
      let faults = ap (λ (t : BookTold (Option L)). t.faults) own in (
        _,
        refl,
        record { written = λ bytes is. ap (λ (t : BookTold (Option L)). t.written) own ∙ is; faults = faults },
        record { starts = subst (λ (t : BookTold (Option L)). StartsEmpty t.written → StartsEmpty b.written) own (λ empty. empty); faults = faults },
      )
  plain_at (b ∷ books) (suc m) book at = plain_at books m book at

  -- as many books as there are seen
  over_at : (posters : List PostEnd) (books : List (BookTold (Option L))) (m : ℕ) (book : BookTold (Option L)) → m < length (posting_each posters books) → slice_get books m ≡ Some book
      → (over : BookTold (KeptLabel L)) × (slice_get (posting_each posters books) m ≡ Some over) × IsOver book over
  over_at [] books m book inside at = let t = plain_at books m book at in (t.0, t.1, t.2)
  over_at (p ∷ posters) [] m book inside at = absurd (none-some book at)
  over_at (p ∷ posters) (b ∷ books) zero book inside at =
      let own = same_Some b book at in (
        _,
        refl,
        record {
          written = λ bytes is. ap (λ (t : BookTold (Option L)). told_or t.written p.taken) own ∙ ap (λ (o : Option (List ℕ)). told_or o p.taken) is;
          faults = ap (λ (t : BookTold (Option L)). t.faults) own;
        },
      )
  over_at (p ∷ posters) (b ∷ books) (suc m) book inside at = over_at posters books m book (omega (arith, inside)) at

  -- and as they were before
  start_at : (posters : List PostEnd) (books : List (BookTold (Option L))) (m : ℕ) (book : BookTold (Option L)) → m < length (posting_each (map unposted posters) books) → slice_get books m ≡ Some book
      → (over : BookTold (KeptLabel L)) × (slice_get (posting_each (map unposted posters) books) m ≡ Some over) × StartsOver book over
  start_at [] books m book inside at = let t = plain_at books m book at in (t.0, t.1, t.3)
  start_at (p ∷ posters) [] m book inside at = absurd (none-some book at)
  start_at (p ∷ posters) (b ∷ books) zero book inside at =
      let own = same_Some b book at in (
        _,
        refl,
        record {
          starts = subst (λ (t : BookTold (Option L)). StartsEmpty t.written → StartsEmpty (told_or b.written [])) own (or_none b.written);
          faults = ap (λ (t : BookTold (Option L)). t.faults) own;
        },
      )
  start_at (p ∷ posters) (b ∷ books) (suc m) book inside at = start_at posters books m book (omega (arith, inside)) at

  same_length : (posters : List PostEnd) (xs ys : List (BookTold (Option L))) → length xs ≡ length ys → length (posting_each posters xs) ≡ length (posting_each (map unposted posters) ys)
  same_length [] xs ys same = length-map xs plain_told ∙ same ∙ sym (length-map ys plain_told)
  same_length (p ∷ posters) [] [] same = refl
  same_length (p ∷ posters) [] (y ∷ ys) same = absurd (let e = same in cc)
  same_length (p ∷ posters) (x ∷ xs) [] same = absurd (let e = same in cc)
  same_length (p ∷ posters) (x ∷ xs) (y ∷ ys) same = ap suc (same_length posters xs ys (let e = same in cc))

pub books_of_serve_are_legal : {E M B : Type 0} → BooksOfRunsAreLegal E M (KeptLabel B) → BooksOfServeAreLegal E M B
books_of_serve_are_legal {E} {M} {B} legal order run devices handed failed serves servable m book bytes at is none =
    let ran = serves.on_board.ran in
    let posters = serves.on_board.posters in
    let old = serves.new.books in
    let are = serves.opened.are_new.books in
    let inside : m < length devices.books = slice_get_within devices.books m book at in
    let same : length devices.books ≡ length old =
    sym (length-map devices.books (λ (one : BookTold (Option B)). one.device)) ∙ ap length ran.same_devices.books ∙ length-map old (λ (one : BookTold (Option B)). one.device) in
    let all : length (posting_each posters devices.books) ≡ length devices.books = ran.headline.carried_out.judged.written.book_count ∙ sym are.count_is ∙ sym same in
    let after = over_at posters devices.books m book (omega (arith, inside, all)) at in
    let (was, at_new) = each_place_has_one old m (omega (arith, inside, same)) in
    let before = start_at posters old m was (omega (arith, inside, all, same_length posters devices.books old same)) at_new in
    let new = are.each m was at_new in
    legal (run_told order run devices handed failed serves) ran.headline (omega (arith, servable.plan.at_most)) m before.0 after.0 bytes before.1 after.1
    (before.2.starts new.written) (after.2.written bytes is) (stands before.0.faults after.0.faults (before.2.faults ∙ new.faults) (after.2.faults ∙ none))
