use Rattle.std.proofs.Common.{◌≡◌, ◌≤◌, ◌+◌, List, ◌++◌, map, reverse, vec_len, vec_capacity}
use Rattle.m17_worker.specs.declared.worker.Worker.{Worker}
use Rattle.m17_reflect.specs.Parts.{AreWorkerParts, HasWorkerRoom}
use Rattle.m17_reflect.proofs.workers.part_workers.Given as goal

-- these were taken apart, and the others stand in reverse
abbrev pub invariant-loop-job : goal.invariant-loop-job
invariant-loop-job g l = record {
  done : (gone : List (Worker g.row.B.Denot)) × (l.fn.jobs.items ≡ gone ++ reverse l.jobs.items) × AreWorkerParts gone l.fn.parts l.parts × (l.seats.items ≡ l.fn.seats.items ++ map (λ j. j.seat) gone);
  room : HasWorkerRoom (vec_len l.jobs) l.parts;
  seat_room : vec_len l.seats + vec_len l.jobs ≤ vec_capacity l.seats;
  same_room : vec_capacity l.seats ≡ vec_capacity l.fn.seats;
}

abbrev pub decreases-loop-job : goal.decreases-loop-job
decreases-loop-job g l = vec_len l.jobs
