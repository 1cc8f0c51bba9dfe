-- The books of a run whose count didn't rise are legal.
use Rattle.std.proofs.Common.{◌≡◌, ℕ, ◌≤◌, ◌++◌, Bool, true, false, List, Option, None, Some, sym, refl, ap, ◌∙◌, arith}
use Rattle.std.proofs.lemmas.Option.{same_Some, none-some, slice_get_within}
use Rattle.m17_io.specs.Faults.{HasRisen}
use Rattle.m17_ports.specs.Book.{BookTold, HasText}
use Rattle.m17_ports.specs.Told.{told_then, StartsEmpty}
use Rattle.m17_floor.specs.Legal.{book_places}
use Rattle.m17_worker.specs.BookLaws.{BooksAreLegal}
use Rattle.m17_reflect.specs.Links.{At, setup_at}
use Rattle.m17_reflect.specs.Run.{Run}
use Rattle.m17_reflect.specs.Trails.{events_of}
use Rattle.m17_reflect.specs.Headline.{Headline}
use Rattle.m17_laws.specs.LegalBooksLaws.{HaveLegalBook}
use Rattle.m17_lists.proofs.Places.{each_place_has_one}

-- what a new book tells is all that was written to it
told_is : (before after : Option (List ℕ)) (text bytes : List ℕ) → StartsEmpty before → after ≡ told_then before text → after ≡ Some bytes → bytes ≡ text
told_is None after text bytes new then is = absurd (none-some bytes (sym then ∙ is))
told_is (Some all) after text bytes new then is =
    sym (same_Some (all ++ text) bytes (sym then ∙ is)) ∙ ap (λ (l : List ℕ). l ++ text) (new all refl)

-- a book whose count didn't rise has the whole text
whole_text : {B : Type 0} (before after : BookTold B) (text bytes : List ℕ) (failed : Bool) → HasText before text failed after → StartsEmpty before.written → after.written ≡ Some bytes
    → ¬ HasRisen before.faults after.faults → bytes ≡ text
whole_text before after text bytes true has new is stands = absurd (stands (has.cut refl).2)
whole_text before after text bytes false has new is stands = told_is before.written after.written text bytes new (has.whole refl).0 is

pub books_of_runs_are_legal : BooksAreLegal → {E M B : Type 0} (run : Run E M B) (headline : Headline run) → run.plan.places ≤ book_places → (m : ℕ) (before after : BookTold B) (bytes : List ℕ)
    → At run.before.books m before → At run.after.books m after → StartsEmpty before.written → after.written ≡ Some bytes → ¬ HasRisen before.faults after.faults
    → HaveLegalBook run m bytes
books_of_runs_are_legal legal run headline few m before after bytes at_b at_a new is stands =
    let written = headline.carried_out.judged.written in
    let trails = headline.carried_out.trails in
    let inside = slice_get_within run.after.books m after at_a in
    let (trail, at_trail) = each_place_has_one run.handed.trails m (omega (arith, written.book_count, trails.count)) in
    let (failed, has, told) = written.books m trail before after at_trail at_b at_a in
    record {
      trail = trail;
      is_there = at_trail;
      text = whole_text before after _ bytes failed has new is stands;
      spelled = written.spelled m trail after bytes at_trail at_a is;
      legal = legal (setup_at run.plan m) (events_of trail) few;
    }
