-- What the first rule that fits decides, rule by rule.
use Rattle.std.proofs.Common.{◌≡◌, ℕ, Bool, true, false, cond, ◌+◌, ◌<◌, ◌≤◌, List, ◌∷◌, length, get_or, drop, Some, ap, ◌∙◌}
use Rattle.std.proofs.lemmas.List.{drop_more, drop_all}
use Rattle.std.specs.Prelude.{find}
use Rattle.std.specs.Option.{option_map_or}
use Rattle.m17_gate.specs.declared.asked.Asked.{Asked}
use Rattle.m17_gate.specs.declared.rule.Rule.{Rule}
use Rattle.m17_gate.specs.Fits.{fits, is_allow, allows_asked}

first_passed : (rule : Rule) (rules : List Rule) (asked : Asked) → fits rule asked ≡ false
    → allows_asked (rule ∷ rules) asked ≡ allows_asked rules asked
first_passed rule rules asked fails =
    ap (λ (b : Bool). option_map_or (λ (r : Rule). is_allow r.act)
    (cond b (Some rule) (find (λ r. fits r asked) rules)) true) fails

first_decides : (rule : Rule) (rules : List Rule) (asked : Asked) → fits rule asked ≡ true
    → allows_asked (rule ∷ rules) asked ≡ is_allow rule.act
first_decides rule rules asked holds =
    ap (λ (b : Bool). option_map_or (λ (r : Rule). is_allow r.act)
    (cond b (Some rule) (find (λ r. fits r asked) rules)) true) holds

pub rule_passed : (rules : List Rule) (i : ℕ) (rule : Rule) (asked : Asked) → i < length rules
    → get_or rules i rule ≡ rule
    → fits rule asked ≡ false
    → allows_asked (drop i rules) asked ≡ allows_asked (drop (i + 1) rules) asked
rule_passed rules i rule asked lt is fails =
    ap (λ (rs : List Rule). allows_asked rs asked)
    (drop_more rules i rule lt ∙ ap (λ (r : Rule). r ∷ drop (i + 1) rules) is)
    ∙ first_passed rule (drop (i + 1) rules) asked fails

pub rule_decides : (rules : List Rule) (i : ℕ) (rule : Rule) (asked : Asked) → i < length rules
    → get_or rules i rule ≡ rule
    → fits rule asked ≡ true → allows_asked (drop i rules) asked ≡ is_allow rule.act
rule_decides rules i rule asked lt is holds =
    ap (λ (rs : List Rule). allows_asked rs asked)
    (drop_more rules i rule lt ∙ ap (λ (r : Rule). r ∷ drop (i + 1) rules) is)
    ∙ first_decides rule (drop (i + 1) rules) asked holds

pub no_rule : (rules : List Rule) (i : ℕ) (asked : Asked) → length rules ≤ i
    → allows_asked (drop i rules) asked ≡ true
no_rule rules i asked past = ap (λ (rs : List Rule). allows_asked rs asked) (drop_all i rules past)
