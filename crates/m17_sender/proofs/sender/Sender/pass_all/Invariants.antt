use Rattle.std.proofs.Common.{◌≡◌, ◌<◌, ℕ, false}
use Rattle.m17_sender.specs.Ready.{IsShaped}
use Rattle.m17_sender.specs.SoFar.{at_rest, GoesOn, RestsAt}
use Rattle.m17_sender.proofs.sender.Sender.pass_all.Given as goal

abbrev pub invariant-loop-row : goal.invariant-loop-row
invariant-loop-row g l = record {
  shaped : IsShaped l.self;
  goes_on : GoesOn g.M.Mouth.told
      (at_rest l.initial.self l.initial.kept.noted) (at_rest l.self l.kept.noted);
  vain : l.did ≡ false → (m : ℕ) → m < l.row → (q : ℕ) → q < l.initial.self.places
      → RestsAt l.self l.kept.noted m q;
}
