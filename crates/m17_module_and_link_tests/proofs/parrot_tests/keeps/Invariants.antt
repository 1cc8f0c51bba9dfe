use Rattle.std.proofs.Common.{IsTrue}
use Rattle.m17_module.specs.Recording.{is_going_on}
use Rattle.m17_module_and_link_tests.proofs.parrot_tests.keeps.Given as goal

abbrev pub invariant-loop-number : goal.invariant-loop-number
invariant-loop-number l = IsTrue (is_going_on l.parrot)
