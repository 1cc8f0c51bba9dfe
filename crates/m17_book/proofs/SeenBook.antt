-- A book that is checked while it is read.
use Rattle.std.proofs.Common.{◌≡◌, ◌⊎◌, ℕ, ◌+◌, ◌-◌, ◌^◌, ◌<◌, ◌≤◌, List, [], ◌∷◌, ◌++◌, length, Option, None, Some, Result, Ok, Err, IsErr, OnErr, IfOk, IfErr, inl, inr, ap, sym, subst, ◌∙◌, arith, length-append}
use Rattle.m17_floor.specs.LegalLaws.{LaterActsChangeNoBreach, BreachesAreInTheList}
use Rattle.m17_book.specs.Checks.{IsFirstBreachOf, TellsOfBook, TellsBook}
use Rattle.m17_book.specs.Checked.{Checking, HasChecked, ChecksNext}
use Rattle.m17_book.specs.Flaws.{RecordFlaw}
use Rattle.m17_book.specs.Laws.{IsClear}
use Rattle.m17_book.specs.Limits.{told, SpellsEach}
use Rattle.m17_book.specs.Records.{SpellsRecord}
use Rattle.m17_book.specs.Tried.{HasSeen}
use Rattle.m17_book.specs.Walk.{coming, Spot, HasPassed, IsAt, AddsAll, ReadsBook, WrongRecord, IsCutAt, IsSettled}
use Rattle.m17_book.specs.declared.record.Record.{Record}
use Rattle.m17_book.specs.declared.report.Breach.{Breach}
use Rattle.m17_book.specs.declared.report.Report.{Report}
use Rattle.m17_book.specs.declared.head.Head.{Head}
use Rattle.m17_book.specs.declared.refusal.FormRefusal.{FormRefusal}
use Rattle.m17_book.specs.Steps.{PassesHeader}
use Rattle.m17_book.specs.Versions.{most_book_bytes}
use Rattle.m17_book.proofs.WholeBook.{behind_header, stops_behind, is_book, is_refused}
use Rattle.m17_book.specs.Answers.{IsOutside}
use Rattle.m17_book.specs.Book.{IsBook, RefusesBook}
use Rattle.std.proofs.lemmas.Result.{IfOk-weaker}
use Rattle.m17_book.proofs.FirstBreach.{first_extends, breach_in}
use Rattle.m17_book.specs.declared.version.Version.TheVariants.{Two}

-- so many bytes have no more records
no_more : IsClear (SpellsRecord Two) (RecordFlaw Two) → (records : List Record) (front : List ℕ) → SpellsEach (SpellsRecord Two) records front → length records ≤ length front
no_more clear [] front spelled = omega arith
no_more clear (one ∷ records) front spelled =
    omega (arith, clear.some one spelled.0 spelled.2, no_more clear records spelled.1 spelled.3, ap length spelled.4, length-append spelled.0 spelled.1)

pub few_records : IsClear (SpellsRecord Two) (RecordFlaw Two) → (place : ℕ) (ahead : List ℕ) (records : List Record) (spot : Spot) → HasPassed (SpellsRecord Two) place ahead records spot → spot.place ≤ 67108872 → length records < 2 ^ 64 - 1
few_records clear place ahead records spot passed low = omega (arith, no_more clear records passed.front passed.spelled, passed.place_is)

-- What became of the records that a checker was shown, with one more.
step_seen : (limit : ℕ) (result : Result (Unit {0}) Breach) (after : Checking) (records : List Record) (one : Record) → ChecksNext result limit after records one → IfErr result (λ breach. after.breach ≡ Some breach) → HasSeen limit after (records ++ one ∷ [])
step_seen limit (Ok u) after records one told broken = inl told
step_seen limit (Err breach) after records one told broken = inr (breach, broken, told.1)

pub seen_more : LaterActsChangeNoBreach → BreachesAreInTheList → (limit : ℕ) (before after : Checking) (result : Result (Unit {0}) Breach) (records : List Record) (one : Record) →
    (HasChecked limit before records → ChecksNext result limit after records one) → IfErr result (λ breach. after.breach ≡ Some breach) →
    ((breach : Breach) → before.breach ≡ Some breach → (result ≡ Err breach) × (after ≡ before)) →
    HasSeen limit before records → HasSeen limit after (records ++ one ∷ [])
seen_more later within limit before after result records one checks broken again (inl has) = step_seen limit result after records one (checks has) broken
seen_more later within limit before after result records one checks broken again (inr found) =
    inr (
      found.0,
      ap (λ (c : Checking). c.breach) (again found.0 found.1).1 ∙ found.1,
      first_extends later limit records (one ∷ []) found.0 (breach_in within limit records found.0 found.2) found.2,
    )

-- What is said of the records that were seen.
pub told_of : (limit : ℕ) (checker : Checking) (records : List Record) (breach : Option Breach) → checker.breach ≡ breach → HasSeen limit checker records → (b : Breach) → breach ≡ Some b → IsFirstBreachOf limit records b
told_of limit checker records breach is (inl has) b e = let none : checker.breach ≡ None = has.unbroken in absurd (cc)
told_of limit checker records breach is (inr found) b e =
    let same : Some found.0 ≡ Some b = sym found.1 ∙ is ∙ e in
    let one : found.0 ≡ b = cc in
    subst (λ x. IsFirstBreachOf limit records x) one found.2

pub none_told : (limit : ℕ) (checker : Checking) (records : List Record) → checker.breach ≡ None → HasSeen limit checker records → HasChecked limit checker records
none_told limit checker records is (inl has) = has
none_told limit checker records is (inr found) = let some : checker.breach ≡ Some found.0 = found.1 in absurd (cc)

-- what was found of the records behind a header
pub seen_behind : (result : Result (Result Report Breach) FormRefusal) (head : Head) (bytes : List ℕ) (records : List Record) (held : List ℕ) (left : Option (List ℕ))
    (place after : ℕ) (spot : Spot) → place ≡ 0
    → (h : PassesHeader Two (Ok head) (coming place bytes) (record { held = held; left = left; place = after }))
    → IfOk result (λ verdict. TellsOfBook head.limit verdict records)
    → AddsAll (SpellsRecord Two) (WrongRecord Two) (most_book_bytes Two) result (coming after h.1) records spot
    → ReadsBook TellsBook Two result bytes records spot
seen_behind (Ok verdict) head bytes records held left place after spot zero h tells adds =
    behind_header Two TellsBook verdict head bytes records held left place after spot zero h verdict adds tells
seen_behind (Err refusal) head bytes records held left place after spot zero h tells adds =
    stops_behind Two (Result Report Breach) (Result Report Breach) TellsBook refusal head bytes records held left place after spot zero h adds

-- what a check of a whole book answers, from what was found and how that was settled
module _ (read result : Result (Result Report Breach) FormRefusal) (Left : List ℕ → Type 0) (spot : Spot)
    (reads : (bytes : List ℕ) → Left bytes → (records : List Record) × ReadsBook TellsBook Two read bytes records spot) where
  pub found_of : (Same : Result Report Breach → Type 0) → IfOk result (λ verdict. (read ≡ Ok verdict) × Same verdict)
      → IfOk result (λ verdict. (bytes : List ℕ) → Left bytes → (head : Head) × (records : List Record) × IsBook Two bytes head records
      × TellsOfBook head.limit verdict records)
  found_of Same ok = IfOk-weaker result _ _ (λ verdict h bytes left.
      let r = reads bytes left in
      let book = (is_book Two TellsBook read verdict bytes r.0 spot h.0 r.1).0 in (book.0, r.0, book.1, book.2)) ok

  pub left_of : (Same : Result Report Breach → Type 0) → IfOk result (λ verdict. (read ≡ Ok verdict) × Same verdict)
      → IfOk result (λ verdict. (bytes : List ℕ) → Left bytes → (spot.left ≡ Some []) × Same verdict)
  left_of Same ok = IfOk-weaker result _ _ (λ verdict h bytes left.
      let r = reads bytes left in ((is_book Two TellsBook read verdict bytes r.0 spot h.0 r.1).1, h.1)) ok

pub refused_of : (read result : Result (Result Report Breach) FormRefusal) (Left : List ℕ → Type 0) (spot : Spot)
    → ((bytes : List ℕ) → Left bytes → (records : List Record) × ReadsBook TellsBook Two read bytes records spot)
    → OnErr result (IsErr read) → IfErr read (λ found. IsOutside found → IfErr result IsOutside)
    → IfErr read (λ found. (total : ℕ) → (ahead : List ℕ) → IsAt spot ahead → told total ≡ told (spot.place + length ahead) → IsCutAt total found
    → IfErr result (IsSettled (most_book_bytes Two) total found))
    → IfErr result (λ refusal. (bytes : List ℕ) → Left bytes → IsOutside refusal ⊎ RefusesBook Two bytes refusal)
refused_of read (Ok verdict) Left spot reads is outside settled = tt
refused_of read (Err refusal) Left spot reads is outside settled = λ bytes left.
    let r = reads bytes left in is_refused Two TellsBook read refusal bytes r.0 spot r.1 is outside settled
