use Rattle.std.proofs.Common.{◌≡◌, ℕ, ◌+◌, ◌<◌, List, length, get_or, drop, sym, ap, ◌∙◌}
use Rattle.std.specs.List.{fold}
use Rattle.std.proofs.lemmas.List.{at_drop_more, at_drop_all}
use Rattle.std.specs.Borrow.{Bor}
use Rattle.clap.specs.Words.{App, Text, app_of, with_rule}
use Rattle.m17_words.specs.declared.tables.Kind.{Kind}
use Rattle.m17_words.specs.Listed.{rule_for, rules_for}
use Rattle.m17_words.proofs.tables.listed.Goals as goal

pub loop-option-init : goal.loop-option-init
loop-option-init c = ap (λ (a : App). fold with_rule a (rules_for c.args.options.now)) c.bare-command.ensures

-- a rule that is added is no longer left to add
one_less : (a b : App) (options : List (Bor Text × Kind)) (i : ℕ) (d : Bor Text × Kind) → i < length options
    → b ≡ with_rule a (rule_for (get_or options i d).0.now (get_or options i d).1)
    → fold with_rule b (rules_for (drop (i + 1) options)) ≡ fold with_rule a (rules_for (drop i options))
one_less a b options i d inside e =
    ap (λ (a : App). fold with_rule a (rules_for (drop (i + 1) options))) e
    ∙ sym (at_drop_more (λ (xs : List (Bor Text × Kind)). fold with_rule a (rules_for xs)) options i d inside)

pub loop-option-preserved : goal.loop-option-preserved
loop-option-preserved c =
    one_less _ _ c.args.options.now c.loop-option.option-index _ c.loop-option-test.true
    (c.in_ok-command.ensures.with ∙ ap (with_rule (app_of c.loop-option.command)) c.arg.ensures.rule) ∙ c.loop-option.invariant

pub returns-clause-table : goal.returns-clause-table
returns-clause-table c =
    sym (at_drop_all (λ (xs : List (Bor Text × Kind)). fold with_rule (app_of c.loop-option.command) (rules_for xs))
    c.args.options.now c.loop-option.option-index c.loop-option-test.false) ∙ c.loop-option.invariant
