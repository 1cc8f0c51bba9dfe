use Rattle.std.proofs.Common.{◌≡◌, ◌-◌, ◌≤◌, length, take}
use Rattle.m17_io.specs.Outlet.{followed_by}
use Rattle.m17_streams.proofs.send_all.send_all.Given as goal

-- so many bytes have left, and the outlet has not failed
abbrev pub invariant-loop-done : goal.invariant-loop-done
invariant-loop-done g l = record {
  within : l.done ≤ length l.bytes;
  sent : (g.O.Outlet.told l.out).sent ≡ followed_by (g.O.Outlet.told l.fn.out).sent (take l.done l.bytes);
  sound : (g.O.Outlet.told l.out).faults ≡ (g.O.Outlet.told l.fn.out).faults;
}

abbrev pub decreases-loop-done : goal.decreases-loop-done
decreases-loop-done g l = length l.bytes - l.done
