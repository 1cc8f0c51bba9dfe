use Rattle.std.proofs.Common.{◌≡◌, ◌<◌, ℕ, false}
use Rattle.m17_sender.specs.Ready.{IsShaped}
use Rattle.m17_sender.specs.SoFar.{at_rest, GoesOn, IsIdle, RestsAt}
use Rattle.m17_sender.proofs.sender.Sender.pass_row.Given as goal

abbrev pub invariant-loop-at : goal.invariant-loop-at
invariant-loop-at g l = record {
  shaped : IsShaped l.self;
  goes_on : GoesOn g.M.Mouth.told
      (at_rest l.initial.self l.initial.kept.noted) (at_rest l.self l.kept.noted);
  vain : l.did ≡ false → IsIdle l.initial.self l.self l.initial.kept.noted l.kept.noted
      × ((q : ℕ) → q < l.at → RestsAt l.self l.kept.noted l.row q);
}
