use Rattle.std.proofs.Common.{◌≡◌}
use Rattle.m17_lane.proofs.pusher.Pusher.push.Given as goal

-- while it waits the end stays as it was, and the item is in hand
abbrev pub invariant-loop : goal.invariant-loop
invariant-loop g l = (l.self ≡ l.initial.self) × (l.item ≡ l.initial.item)
