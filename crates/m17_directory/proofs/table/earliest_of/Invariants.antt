use Rattle.std.proofs.Common.{take}
use Rattle.m17_directory.specs.Steps.{IsEarliest}
use Rattle.m17_directory.proofs.table.earliest_of.Given as goal

abbrev pub invariant-loop-known : goal.invariant-loop-known
invariant-loop-known l = IsEarliest l.earliest (take l.known-index l.rows)
