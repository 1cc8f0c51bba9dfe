-- A legal book of a run, if it is not too large, is what `check` finds legal.
use Rattle.std.proofs.Common.{ℕ, ◌≤◌, List, length, sym, subst}
use Rattle.m17_book.specs.Book.{HasBookForm}
use Rattle.m17_book.specs.Versions.{most_book_bytes}
use Rattle.m17_book.specs.declared.version.Version.TheVariants.{Two}
use Rattle.m17_reflect.specs.Judged.{head_at}
use Rattle.m17_reflect.specs.Run.{Run}
use Rattle.m17_text_commands.specs.Check.{IsLegalInput}
use Rattle.m17_text_commands.specs.CheckLaws.{LegalIsNotRefused}
use Rattle.m17_laws.specs.LegalBooksLaws.{trail_records, AreFoundLegal, HaveLegalBook}

pub check_finds_books_legal : LegalIsNotRefused → {E M B : Type 0} (run : Run E M B) (m : ℕ) (bytes : List ℕ) (book : HaveLegalBook run m bytes) → length bytes ≤ most_book_bytes Two
    → AreFoundLegal bytes (trail_records run m book.trail)
check_finds_books_legal never run m bytes book few =
    let records = trail_records run m book.trail in
    let form : HasBookForm Two bytes (head_at run.plan m) records =
    subst (λ (b : List ℕ). HasBookForm Two b (head_at run.plan m) records) (sym book.text) book.spelled in
    let input : IsLegalInput bytes records = (head_at run.plan m, (few, form), book.legal) in
    record { legal = input; unrefused = λ place reason. never bytes records place reason input }
