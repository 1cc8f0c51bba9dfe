use Rattle.std.proofs.Common.{ℕ, List}
use Rattle.m17_sender.specs.Ready.{IsShaped}
use Rattle.m17_sender.specs.SoFar.{at_rest, GoesOn}
use Rattle.m17_sender.proofs.sender.Sender.pass_door.Given as goal

abbrev pub invariant-loop-taken : goal.invariant-loop-taken
invariant-loop-taken g l = record {
  shaped : IsShaped l.self;
  goes_on : (noted : List ℕ) → GoesOn g.M.Mouth.told
      (at_rest l.initial.self noted) (at_rest l.self noted);
}
