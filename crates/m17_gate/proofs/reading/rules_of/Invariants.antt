use Rattle.std.proofs.Common.{◌+◌, ◌-◌, ◌≤◌, length}
use Rattle.m17_gate.proofs.TextLemmas.{IsReadTo}
use Rattle.m17_gate.proofs.reading.rules_of.Given as goal

abbrev pub invariant-loop-place : goal.invariant-loop-place
invariant-loop-place l = record {
  within : l.place ≤ length l.text + 1;
  read : IsReadTo l.text l.place l.number l.rules;
}

abbrev pub decreases-loop-place : goal.decreases-loop-place
decreases-loop-place l = length l.text + 1 - l.place
