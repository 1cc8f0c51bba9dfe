use Rattle.m17_control.proofs.ModuleTexts.{IsReadSoFar}
use Rattle.m17_control.proofs.modules.Modules.read.Given as goal

abbrev pub invariant-loop-place : goal.invariant-loop-place
invariant-loop-place l = IsReadSoFar l.bytes l.place l.modules
