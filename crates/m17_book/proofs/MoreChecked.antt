-- A checker with one record more.
use Rattle.std.proofs.Common.{◌≡◌, ℕ, ◌-◌, ◌≤◌, ◌==◌, List, [], ◌∷◌, ◌++◌, length, max, None, Some, IsSome, is_some, refl, ap, sym, subst, ◌∙◌, arith}
use Rattle.std.proofs.lemmas.Bool.{cond-true, eq-eqb}
use Rattle.std.proofs.lemmas.List.{length-append, length-map, map-append}
use Rattle.m17_values.specs.declared.member.Member.{Member}
use Rattle.m17_floor.specs.declared.act.Act.{Act}
use Rattle.m17_floor.specs.Acts.{with_act, moment_before}
use Rattle.m17_floor.specs.Laws.{MomentAfterOneMore}
use Rattle.m17_floor.specs.declared.verdict.Verdict.{Verdict}
use Rattle.m17_floor.specs.Legal.{KeptAct, book_places, acts_in, moment_written, IsLegal, IsFirstBreach}
use Rattle.m17_floor.specs.LegalLaws.{LegalWithOneMore, BreachByWhatIsLeft, LaterActsChangeNoBreach}
use Rattle.m17_floor.specs.Alike.{stay_of}
use Rattle.m17_book.specs.Checks.{kept_by, kept_of, IsLegalBook, IsFirstBreachOf, report_of}
use Rattle.m17_book.specs.Checked.{Checking, HasChecked}
use Rattle.m17_book.specs.Tried.{Keeps, BreaksFirst}
use Rattle.m17_book.specs.Roster.{People, stay_in, if_of, RosterStandsFor}
use Rattle.m17_book.specs.declared.record.Record.{Record}
use Rattle.m17_book.specs.declared.report.Report.{Report}
use Rattle.m17_book.specs.declared.report.Breach.{Breach}
use Rattle.m17_book.specs.declared.stay.Stay.{Stay}

-- A place that is held: a Join there is wrong.
pub held_is_in : (limit : ℕ) (people : People) (acts : List Act) (place : ℕ) (stay : Stay) → Some stay ≡ stay_in people.stays place → RosterStandsFor limit acts people → IsSome (stay_of book_places acts (record { place = place; generation = stay.generation }))
held_is_in limit people acts place stay is stands =
    let m : Member = record { place = place; generation = stay.generation } in
    ap (λ o. is_some o)
    (stands.stays m
    ∙ ap (if_of stay.generation) (sym is)
    ∙ cond-true (stay.generation == stay.generation) (Some stay.listens) None (eq-eqb stay.generation stay.generation refl))

pub kept_more : (records : List Record) (next : Record) → kept_of (records ++ next ∷ []) ≡ kept_of records ++ kept_by next ∷ []
kept_more records next = map-append kept_by records (next ∷ [])

pub acts_kept_more : (records : List Record) (next : Record) → acts_in (kept_of (records ++ next ∷ [])) ≡ with_act (acts_in (kept_of records)) (kept_by next).act
acts_kept_more records next =
    ap acts_in (kept_more records next) ∙ map-append (λ (one : KeptAct). one.act) (kept_of records) (kept_by next ∷ [])

length_kept : (records : List Record) → length (kept_of records) ≡ length records
length_kept records = length-map records kept_by

length_acts : (records : List Record) → length (acts_in (kept_of records)) ≡ length records
length_acts records = length-map (kept_of records) (λ (one : KeptAct). one.act) ∙ length_kept records

-- the records with one more that breaks no rule
legal_next : LegalWithOneMore → BreachByWhatIsLeft → (limit : ℕ) (records : List Record) (next : Record) (after : Checking) → IsLegalBook limit records → Keeps limit after records next → IsLegalBook limit (records ++ next ∷ [])
legal_next one_more by_left limit records next after legal keeps =
    subst (IsLegal limit) (sym (kept_more records next))
    (one_more limit (kept_of records) (kept_by next) legal (λ rule breach. keeps.keeps rule ((by_left limit (kept_of records) (kept_by next) rule).0 breach)))

last_written : (acts : List Act) (act : Act) → moment_written (with_act acts act) (length acts) ≡ act.at
last_written [] act = refl
last_written (one ∷ acts) act = last_written acts act

highest : (a b : ℕ) → a ≤ b → max a b ≡ b
highest a b h = omega arith

pub checked_more : LegalWithOneMore → BreachByWhatIsLeft → MomentAfterOneMore → (limit : ℕ) (before after : Checking) (report : Report) (records : List Record) (next : Record) → HasChecked limit before records → Keeps limit after records next → after.breach ≡ None → report ≡ report_of (records ++ next ∷ []) →
    HasChecked limit (record { people = after.people; moment = after.moment; report = report; breach = after.breach }) (records ++ next ∷ [])
checked_more one_more by_left moment limit before after report records next has keeps unbroken counted =
    let acts : List Act = acts_in (kept_of records) in
    let act : Act = (kept_by next).act in
    let longer : acts_in (kept_of (records ++ next ∷ [])) ≡ with_act acts act = acts_kept_more records next in
    let size : length (records ++ next ∷ []) ≡ length (with_act acts act) = omega (arith, length-append records (next ∷ []), length-append acts (act ∷ []), length_acts records) in
    let rising : moment_before acts (length acts) ≤ act.at = subst (λ n. moment_before acts n ≤ act.at) (sym (length_acts records)) (subst (λ m. moment_before acts (length records) ≤ m) keeps.moment keeps.rising) in
    let place : length (records ++ next ∷ []) - 1 ≡ length acts = omega (arith, length-append records (next ∷ []), length_acts records) in
    record {
      unbroken = unbroken;
      legal = legal_next one_more by_left limit records next after has.legal keeps;
      report = counted;
      people = subst (λ xs. RosterStandsFor limit xs after.people) (sym longer) keeps.people;
      greatest = keeps.moment
          ∙ sym (ap (λ xs. moment_before xs (length (records ++ next ∷ []))) longer
          ∙ ap (moment_before (with_act acts act)) size
          ∙ moment acts act
          ∙ highest (moment_before acts (length acts)) act.at rising);
      last = keeps.moment
          ∙ sym (ap (λ xs. moment_written xs (length (records ++ next ∷ []) - 1)) longer
          ∙ ap (moment_written (with_act acts act)) place
          ∙ last_written acts act);
    }

pub same_some : (a b : Verdict) → Some a ≡ Some b → a ≡ b
same_some a b e = cc

-- the next record is the first that breaks a rule, and this the first rule
pub breaks_first : BreachByWhatIsLeft → LaterActsChangeNoBreach → (limit : ℕ) (records : List Record) (next : Record) (breach : Breach) → IsLegalBook limit records
    → breach.position ≡ length records → BreaksFirst limit records next breach.rule → IsFirstBreachOf limit (records ++ next ∷ []) breach
breaks_first by_left later limit records next breach legal place breaks =
    let kept : List KeptAct = kept_of records in
    let one : KeptAct = kept_by next in
    let size : length kept ≡ breach.position = length_kept records ∙ sym place in
    subst (λ (all : List KeptAct). IsFirstBreach limit all breach.position breach.rule) (sym (kept_more records next))
    (subst (λ (n : ℕ). IsFirstBreach limit (kept ++ one ∷ []) n breach.rule) size (record {
      breach = (by_left limit kept one breach.rule).1 breaks.breaks;
      none_before = λ m other l b. legal m other ((later limit kept (one ∷ []) m other l).0 b);
      first_rule = λ other t b. breaks.first other t ((by_left limit kept one other).0 b);
    }))
