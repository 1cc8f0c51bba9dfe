use Rattle.std.proofs.Common.{◌+◌}
use Rattle.std.specs.Prelude.{unwrap_or}
use Rattle.m17_roll.proofs.Turns.{written, Passed}
use Rattle.m17_roll.proofs.seat.RollSeat.claim.Given as goal

abbrev pub ghosts-try_at : goal.ghosts-try_at
ghosts-try_at a = record { askers = written (a.place + 1) a.self.now.places (unwrap_or a.asker 0) }

abbrev pub invariant-loop-place : goal.invariant-loop-place
invariant-loop-place l = Passed l.initial.self l.place l.asker l.self
