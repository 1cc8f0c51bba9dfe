use Rattle.std.proofs.Common.{◌≡◌, drop}
use Rattle.std.specs.List.{fold}
use Rattle.clap.specs.Words.{app_of, with_rule}
use Rattle.m17_words.specs.Listed.{rules_for}
use Rattle.m17_words.specs.Tables.{table_of}
use Rattle.m17_words.proofs.tables.listed.Given as goal

-- what is left to add makes the table of the whole
abbrev pub invariant-loop-option : goal.invariant-loop-option
invariant-loop-option l =
    fold with_rule (app_of l.command) (rules_for (drop l.option-index l.options)) ≡ table_of l.name (rules_for l.options)
