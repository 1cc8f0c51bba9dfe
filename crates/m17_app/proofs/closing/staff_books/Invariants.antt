use Rattle.std.proofs.Common.{◌≡◌, ◌≤◌, ◌-◌, All, vec_len, vec_capacity}
use Rattle.m17_net.specs.Devices.{IsBegun}
use Rattle.m17_app.proofs.closing.staff_books.Given as goal

-- each thread so far is that of a new book, there is room for all, and the ports are as they were
abbrev pub invariant-loop-ports : goal.invariant-loop-ports
invariant-loop-ports g l = record {
  begun : All IsBegun l.hands.items;
  within : vec_len l.hands ≤ l.count;
  room : l.count ≤ vec_capacity l.hands;
  same : l.ports ≡ l.fn.ports;
}

abbrev pub decreases-loop-ports : goal.decreases-loop-ports
decreases-loop-ports g l = l.count - vec_len l.hands
