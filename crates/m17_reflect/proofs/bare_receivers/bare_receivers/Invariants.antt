use Rattle.std.proofs.Common.{◌≡◌, ◌+◌, ◌-◌, ◌≤◌, ◌++◌, map, reverse, vec_len, vec_capacity}
use Rattle.m17_reflect.specs.Bare.{bare, EachFrom, IsNewReceiver}
use Rattle.m17_reflect.specs.Taken.{AreTakenFromLinks, HaveLinks}
use Rattle.m17_reflect.proofs.bare_receivers.bare_receivers.Given as goal

-- so many receivers are made, those of the last links, from the last on
abbrev pub invariant-loop-done : goal.invariant-loop-done
invariant-loop-done l = record {
  have : HaveLinks (l.links - l.done) l.ends;
  taken : AreTakenFromLinks l.fn.ends l.ends (reverse l.made.items);
  seats : l.fn.seats.items ≡ l.seats.items ++ map (λ j. j.seat) (reverse l.made.items);
  seat_count : vec_len l.seats + l.done ≡ vec_len l.fn.seats;
  new : EachFrom (IsNewReceiver l.plan) (l.links - l.done) (map bare (reverse l.made.items));
  made : vec_len l.made ≡ l.done;
  room : l.links ≤ vec_capacity l.made;
}
