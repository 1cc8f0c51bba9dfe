-- What a refused text is told by, and that no text of rules is refused.
use Rattle.std.proofs.Common.{◌≡◌, ℕ, zero, suc, Bool, true, false, List, [], ◌∷◌, Some, refl, sym, ap, subst, ◌∙◌, arith}
use Rattle.std.specs.Prelude.{cond, filter, slice_get, slice_index}
use Rattle.std.specs.List.{AllZip}
use Rattle.m17_gate.specs.Text.{kind_part, modules_part, lines_of, is_ruled, AreModules, AreRules, IsKind, IsRefused, IsRefusedLine, IsRefusedPart, IsRule}
use Rattle.m17_gate.specs.declared.refusal.Reason.{Reason}
use Rattle.m17_gate.specs.declared.refusal.Reason.TheVariants as parts
use Rattle.m17_gate.specs.declared.refusal.RulesRefusal.{RulesRefusal}
use Rattle.m17_gate.specs.declared.refusal.RulesRefusal.TheVariants as refusals
use Rattle.m17_gate.specs.declared.rule.Kind.{Kind}
use Rattle.m17_gate.specs.declared.rule.Kind.TheVariants as kinds
use Rattle.m17_gate.specs.declared.rule.Rule.{Rule}
use Rattle.m17_gate.specs.declared.failure.RulesReason.TheVariants.{Large, Act, Kind as KindReason, Modules, Pattern}
use Rattle.m17_gate.specs.Laws.{NoRulesAreRefused}
use Rattle.m17_gate.specs.Taking.{failure_of, SaysFailure}

-- the failure of a refusal says the same of the text
pub says_same : (text : List ℕ) (refusal : RulesRefusal) → IsRefused text refusal → SaysFailure (failure_of refusal) text
says_same text (refusals.Large place) is = is
says_same text (refusals.Line place parts.Act) is = is
says_same text (refusals.Line place parts.Kind) is = is
says_same text (refusals.Line place parts.Modules) is = is
says_same text (refusals.Line place parts.Pattern) is = is
says_same text refusals.ReadFault is = tt
says_same text refusals.NoMemory is = tt

-- a text is the text of one kind
one_kind : (text : List ℕ) (a b : Kind) → IsKind text a → IsKind text b → a ≡ b
one_kind text kinds.Conn kinds.Conn x y = refl
one_kind text kinds.Lstn kinds.Lstn x y = refl
one_kind text kinds.Talk kinds.Talk x y = refl
one_kind text kinds.Any kinds.Any x y = refl
one_kind text kinds.Conn kinds.Lstn x y = let e : 99 ≡ 108 = ap (λ (xs : List ℕ). slice_index xs 0) (sym x ∙ y) in absurd (omega (arith, e))
one_kind text kinds.Conn kinds.Talk x y = let e : 99 ≡ 116 = ap (λ (xs : List ℕ). slice_index xs 0) (sym x ∙ y) in absurd (omega (arith, e))
one_kind text kinds.Conn kinds.Any x y = let e : 99 ≡ 97 = ap (λ (xs : List ℕ). slice_index xs 0) (sym x ∙ y) in absurd (omega (arith, e))
one_kind text kinds.Lstn kinds.Conn x y = let e : 108 ≡ 99 = ap (λ (xs : List ℕ). slice_index xs 0) (sym x ∙ y) in absurd (omega (arith, e))
one_kind text kinds.Lstn kinds.Talk x y = let e : 108 ≡ 116 = ap (λ (xs : List ℕ). slice_index xs 0) (sym x ∙ y) in absurd (omega (arith, e))
one_kind text kinds.Lstn kinds.Any x y = let e : 108 ≡ 97 = ap (λ (xs : List ℕ). slice_index xs 0) (sym x ∙ y) in absurd (omega (arith, e))
one_kind text kinds.Talk kinds.Conn x y = let e : 116 ≡ 99 = ap (λ (xs : List ℕ). slice_index xs 0) (sym x ∙ y) in absurd (omega (arith, e))
one_kind text kinds.Talk kinds.Lstn x y = let e : 116 ≡ 108 = ap (λ (xs : List ℕ). slice_index xs 0) (sym x ∙ y) in absurd (omega (arith, e))
one_kind text kinds.Talk kinds.Any x y = let e : 116 ≡ 97 = ap (λ (xs : List ℕ). slice_index xs 0) (sym x ∙ y) in absurd (omega (arith, e))
one_kind text kinds.Any kinds.Conn x y = let e : 97 ≡ 99 = ap (λ (xs : List ℕ). slice_index xs 0) (sym x ∙ y) in absurd (omega (arith, e))
one_kind text kinds.Any kinds.Lstn x y = let e : 97 ≡ 108 = ap (λ (xs : List ℕ). slice_index xs 0) (sym x ∙ y) in absurd (omega (arith, e))
one_kind text kinds.Any kinds.Talk x y = let e : 97 ≡ 116 = ap (λ (xs : List ℕ). slice_index xs 0) (sym x ∙ y) in absurd (omega (arith, e))

-- no part of a line is refused that a rule is written in
not_part : (line : List ℕ) (rule : Rule) (reason : Reason) → IsRule line rule → IsRefusedPart line reason → ⊥
not_part line rule parts.Act is part = part rule.act is.act
not_part line rule parts.Kind is (act, of_act, none) = none rule.kind is.kind
not_part line rule parts.Modules is (act, of_act, kind, of_kind, none) =
    let same : kind ≡ rule.kind = one_kind (kind_part line) kind rule.kind of_kind is.kind in
    none rule.modules (subst (λ (k : Kind). AreModules k (modules_part line) rule.modules) (sym same) is.modules)
not_part line rule parts.Pattern is (act, of_act, kind, of_kind, modules, of_modules, none) = none rule.pattern is.pattern

-- a line that is for a rule is written for one of the rules
first_rule : (ruled : Bool) (first : List ℕ) (rest : List (List ℕ)) (rules : List Rule) → AllZip IsRule (cond ruled (first ∷ rest) rest) rules → ruled ≡ true
    → (rule : Rule) × IsRule first rule
first_rule true first rest [] each is = absurd each
first_rule true first rest (rule ∷ rules) each is = (rule, each.0)
first_rule false first rest rules each is = absurd (let h = is in cc)

other_rules : (ruled : Bool) (first : List ℕ) (rest : List (List ℕ)) (rules : List Rule) → AllZip IsRule (cond ruled (first ∷ rest) rest) rules
    → (others : List Rule) × AllZip IsRule rest others
other_rules true first rest [] each = absurd each
other_rules true first rest (rule ∷ rules) each = (rules, each.1)
other_rules false first rest rules each = (rules, each)

rule_at : (lines : List (List ℕ)) (rules : List Rule) (number : ℕ) (line : List ℕ) → AllZip IsRule (filter is_ruled lines) rules
    → slice_get lines number ≡ Some line → is_ruled line ≡ true → (rule : Rule) × IsRule line rule
rule_at [] rules number line each there ruled = absurd (let h = there in cc)
rule_at (first ∷ lines) rules zero line each there ruled =
    let same : first ≡ line = cc in
    let found = first_rule (is_ruled first) first (filter is_ruled lines) rules each (ap is_ruled same ∙ ruled) in
    (found.0, subst (λ (l : List ℕ). IsRule l found.0) same found.1)
rule_at (first ∷ lines) rules (suc number) line each there ruled =
    let others = other_rules (is_ruled first) first (filter is_ruled lines) rules each in
    rule_at lines others.0 number line others.1 there ruled

no_line : (text : List ℕ) (rules : List Rule) (number : ℕ) (part : Reason) → AreRules text rules → IsRefusedLine text number part → ⊥
no_line text rules number part are is =
    let found = rule_at (lines_of text) rules number is.line are.each is.there is.ruled in
    not_part is.line found.0 part found.1 is.part

pub none_refused : NoRulesAreRefused
none_refused text rules place Large are is = let small = are.not_large in let large = is.0 in omega arith
none_refused text rules place Act are is = no_line text rules place parts.Act are is.1
none_refused text rules place KindReason are is = no_line text rules place parts.Kind are is.1
none_refused text rules place Modules are is = no_line text rules place parts.Modules are is.1
none_refused text rules place Pattern are is = no_line text rules place parts.Pattern are is.1
