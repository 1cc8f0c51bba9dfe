-- The first breach of a list is that of each longer one.
use Rattle.std.proofs.Common.{◌≡◌, ℕ, ◌+◌, ◌<◌, List, [], ◌∷◌, ◌++◌, length, take, drop, get_or, ap, sym, subst, ◌∙◌, arith}
use Rattle.std.proofs.lemmas.List.{length-append, length-map, map-append, take_more, take-append-drop}
use Rattle.m17_floor.specs.declared.rule.Rule.{Rule}
use Rattle.m17_floor.specs.Legal.{KeptAct, IsFirstBreach}
use Rattle.m17_floor.specs.LegalLaws.{LaterActsChangeNoBreach, BreachesAreInTheList, OneFirstBreach}
use Rattle.m17_book.specs.Checks.{kept_by, kept_of, IsFirstBreachOf}
use Rattle.m17_book.specs.declared.record.Record.{Record}
use Rattle.m17_book.specs.declared.report.Breach.{Breach}

extends : LaterActsChangeNoBreach → (limit : ℕ) (front more : List KeptAct) (n : ℕ) (rule : Rule) → n < length front → IsFirstBreach limit front n rule → IsFirstBreach limit (front ++ more) n rule
extends later limit front more n rule h first = record {
  breach = (later limit front more n rule h).1 first.breach;
  none_before = λ m other l b. first.none_before m other l ((later limit front more m other (omega arith)).0 b);
  first_rule = λ other t b. first.first_rule other t ((later limit front more n other h).0 b);
}

pub first_extends : LaterActsChangeNoBreach → (limit : ℕ) (front more : List Record) (breach : Breach) → breach.position < length front → IsFirstBreachOf limit front breach → IsFirstBreachOf limit (front ++ more) breach
first_extends later limit front more breach h first =
    let within : breach.position < length (kept_of front) = omega (arith, length-map front kept_by) in
    subst (λ kept. IsFirstBreach limit kept breach.position breach.rule) (sym (map-append kept_by front more))
    (extends later limit (kept_of front) (kept_of more) breach.position breach.rule within first)

-- a breach at record i, where the records before it are legal, is that of all records
pub first_of_all : LaterActsChangeNoBreach → (limit : ℕ) (records : List Record) (i : ℕ) (one : Record) (breach : Breach) → i < length records → one ≡ get_or records i one → breach.position ≡ length (take i records) → IsFirstBreachOf limit (take i records ++ one ∷ []) breach → IsFirstBreachOf limit records breach
first_of_all later limit records i one breach h is place first =
    let front : List Record = take i records ++ one ∷ [] in
    let taken : take (i + 1) records ≡ front = take_more records i one h ∙ ap (λ x. take i records ++ x ∷ []) (sym is) in
    let whole : front ++ drop (i + 1) records ≡ records = ap (λ xs. xs ++ drop (i + 1) records) (sym taken) ∙ take-append-drop (i + 1) records in
    subst (λ xs. IsFirstBreachOf limit xs breach) whole
    (first_extends later limit front (drop (i + 1) records) breach (omega (arith, length-append (take i records) (one ∷ []))) first)

-- breaches that both are the first of one list
pub same_breach : OneFirstBreach → (limit : ℕ) (records : List Record) (a b : Breach) → IsFirstBreachOf limit records a → IsFirstBreachOf limit records b → a ≡ b
same_breach one limit records a b first second =
    let same = one limit (kept_of records) a.position b.position a.rule b.rule first second in
    let make : ℕ → Rule → Breach = λ n rule. record { position = n; rule = rule } in
    ap (λ n. make n a.rule) same.0 ∙ ap (make b.position) same.1

-- a first breach is in the list
pub breach_in : BreachesAreInTheList → (limit : ℕ) (records : List Record) (breach : Breach) → IsFirstBreachOf limit records breach → breach.position < length records
breach_in within limit records breach first = omega (arith, within limit (kept_of records) breach.position breach.rule first.breach, length-map records kept_by)
