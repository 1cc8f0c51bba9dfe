use Rattle.std.proofs.Common.{◌≡◌, ℕ, ◌-◌, ◌≤◌, List, ◌++◌, length, take, drop, Some}
use Rattle.m17_io.proofs.filling.fill.Given as goal

-- so far so many bytes were taken, no device failed, and nothing was written
abbrev pub invariant-loop-have : goal.invariant-loop-have
invariant-loop-have g l = record {
  within : l.have ≤ length l.into;
  rest : (bytes : List ℕ) → (g.S.Input.told l.fn.input).left ≡ Some bytes → (l.have ≤ length bytes) × (l.into ≡ take l.have bytes ++ drop l.have l.initial.into) × ((g.S.Input.told l.input).left ≡ Some (drop l.have bytes));
  reads : (g.S.Input.told l.input).faults ≡ (g.S.Input.told l.fn.input).faults;
  writes : (g.K.Sink.told l.out).faults ≡ (g.K.Sink.told l.fn.out).faults;
  written : (g.K.Sink.told l.out).written ≡ (g.K.Sink.told l.fn.out).written;
}

abbrev pub decreases-loop-have : goal.decreases-loop-have
decreases-loop-have g l = length l.into - l.have
