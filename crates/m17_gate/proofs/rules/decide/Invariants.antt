use Rattle.std.proofs.Common.{◌≡◌, drop}
use Rattle.m17_gate.specs.Fits.{allows_asked}
use Rattle.m17_gate.proofs.rules.decide.Given as goal

abbrev pub invariant-loop-rule : goal.invariant-loop-rule
invariant-loop-rule l = allows_asked l.rules l.asked ≡ allows_asked (drop l.rule-index l.rules)
    l.asked
