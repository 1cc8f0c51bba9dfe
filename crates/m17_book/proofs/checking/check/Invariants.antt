use Rattle.std.proofs.Common.{take}
use Rattle.m17_book.specs.Checked.{HasChecked}
use Rattle.m17_book.proofs.checking.check.Given as goal

abbrev pub invariant-loop-one : goal.invariant-loop-one
invariant-loop-one l = HasChecked l.fn.limit l.checker (take l.one-index l.records)
