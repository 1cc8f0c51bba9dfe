-- The records that were to be written are those of a book.
use Rattle.std.proofs.Common.{◌≡◌, ℕ, Bool, true, false, List, [], ◌∷◌, ◌++◌, take, Option, None, Some, refl, ap, sym, ◌∙◌}
use Rattle.std.specs.Option.{ForSome, option_to_list}
use Rattle.std.specs.List.{AllByRecursion, flat_map}
use Rattle.std.proofs.lemmas.Option.{none-some}
use Rattle.m17_ports.specs.Told.{told_then}
use Rattle.m17_ports.specs.Book.{BookTold, HasText}
use Rattle.m17_book.specs.Limits.{SpellsEach}
use Rattle.m17_book.specs.Records.{FitsRecord, SpellsRecord, record_bytes}
use Rattle.m17_book.specs.Versions.{FitsHeader}
use Rattle.m17_book.specs.declared.head.Head.{Head}
use Rattle.m17_book.specs.declared.record.Record.{Record}
use Rattle.m17_book.specs.declared.version.Version.TheVariants.{Two}
use Rattle.m17_worker.specs.Records.{IsBookText}
use Rattle.m17_worker.specs.Underway.{Note, NoteFits, noted_leave, noted_own}

-- each of these records fits its fields
abbrev AllFit : List Record → Type 0
AllFit records = AllByRecursion (FitsRecord Two) records

fit_on : (xs ys : List Record) → AllFit xs → AllFit ys → AllFit (xs ++ ys)
fit_on [] ys h k = k
fit_on (x ∷ xs) ys h k = (h.0, fit_on xs ys h.1 k)

fit_one : (o : Option Record) → ForSome o (FitsRecord Two) → AllFit (option_to_list o)
fit_one None h = tt
fit_one (Some r) h = (h r refl, tt)

fits_of : (records : List Record) (body : List ℕ) → SpellsEach (SpellsRecord Two) records body → AllFit records
fits_of [] body h = tt
fits_of (r ∷ records) body h = (h.2.0, fits_of records h.1 h.3)

spells_all : (records : List Record) → AllFit records → SpellsEach (SpellsRecord Two) records (flat_map record_bytes records)
spells_all [] h = refl
spells_all (r ∷ records) h = (record_bytes r, flat_map record_bytes records, (h.0, refl), spells_all records h.1, refl)

is_book : (head : Head) (records : List Record) → FitsHeader Two head → AllFit records → IsBookText head records
is_book head records fits all = (fits, flat_map record_bytes records, spells_all records all, refl)

-- a header alone
pub header_alone : (head : Head) → FitsHeader Two head → IsBookText head []
header_alone head fits = is_book head [] fits tt

-- the records of one event more
pub spelled_more : (head : Head) (records : List Record) (moment : ℕ) (note : Note) → NoteFits moment note → IsBookText head records
    → IsBookText head (records ++ (option_to_list (noted_leave moment note) ++ option_to_list (noted_own moment note)))
spelled_more head records moment note fits h =
    let leave : List Record = option_to_list (noted_leave moment note) in
    let own : List Record = option_to_list (noted_own moment note) in
    is_book head (records ++ (leave ++ own)) h.0
    (fit_on records (leave ++ own) (fits_of records h.1 h.2)
    (fit_on leave own (fit_one (noted_leave moment note) fits.leave) (fit_one (noted_own moment note) fits.own)))

-- where a book tells its bytes, it told them before, and later
told_from : (o : Option (List ℕ)) (text bytes : List ℕ) → told_then o text ≡ Some bytes → (all : List ℕ) × (o ≡ Some all)
told_from None text bytes e = absurd (none-some bytes e)
told_from (Some all) text bytes e = (all, refl)

module _ {L : Type 0} (before after : BookTold L) (text bytes : List ℕ) where
  pub told_before : (failed : Bool) → HasText before text failed after → after.written ≡ Some bytes → (all : List ℕ) × (before.written ≡ Some all)
  told_before true h is = let cut = h.cut refl in told_from before.written (take cut.0 text) bytes (sym cut.1 ∙ is)
  told_before false h is = told_from before.written text bytes (sym (h.whole refl).0 ∙ is)

  pub told_after : (failed : Bool) → HasText before text failed after → before.written ≡ Some bytes → (all : List ℕ) × (after.written ≡ Some all)
  told_after true h is = let cut = h.cut refl in (bytes ++ take cut.0 text, cut.1 ∙ ap (λ o. told_then o (take cut.0 text)) is)
  told_after false h is = (bytes ++ text, (h.whole refl).0 ∙ ap (λ o. told_then o text) is)
