use Rattle.std.proofs.Common.{◌≡◌, ◌+◌, ◌≤◌, ◌++◌, map, reverse, vec_len, vec_capacity}
use Rattle.m17_reflect.specs.Bare.{bare}
use Rattle.m17_reflect.proofs.staffing.staff_receivers.Given as goal

-- the last receivers have their devices, and these came from the ends
abbrev pub invariant-loop-receiver : goal.invariant-loop-receiver
invariant-loop-receiver g l = record {
  bare : map bare l.fn.made.items ≡ map bare l.made.items ++ map bare (reverse l.jobs.items);
  ears : l.fn.ears.items ≡ l.ears.items ++ map (λ j. j.ear) (reverse l.jobs.items);
  traces : l.fn.traces.items ≡ l.traces.items ++ map (λ j. j.trace) (reverse l.jobs.items);
  ear_count : vec_len l.ears ≡ vec_len l.made;
  trace_count : vec_len l.traces ≡ vec_len l.made;
  count : vec_len l.jobs + vec_len l.made ≡ vec_len l.fn.made;
  room : vec_len l.fn.made ≤ vec_capacity l.jobs;
  ear_room : vec_capacity l.ears ≡ vec_capacity l.fn.ears;
  trace_room : vec_capacity l.traces ≡ vec_capacity l.fn.traces;
}

abbrev pub decreases-loop-receiver : goal.decreases-loop-receiver
decreases-loop-receiver g l = vec_len l.made
