use Rattle.std.proofs.Common.{◌≡◌, ◌+◌, List, ◌++◌, reverse, vec_len, vec_capacity}
use Rattle.std.specs.List.{AllZip}
use Rattle.m17_crew.proofs.many.join_all.Given as goal

-- so far the jobs from the last that ran on are joined, and stand behind the others
abbrev pub invariant-loop-started : goal.invariant-loop-started
invariant-loop-started g l = record {
  done : (begun ended : List g.row.W.Denot) × (reverse l.fn.running.items ≡ begun ++ reverse l.running.items)
      × (l.jobs.items ≡ l.fn.jobs.items ++ ended) × AllZip g.W.Work.does begun ended;
  number : vec_len l.jobs + vec_len l.running ≡ vec_len l.fn.jobs + vec_len l.fn.running;
  jobs_room : vec_capacity l.jobs ≡ vec_capacity l.fn.jobs;
  running_room : vec_capacity l.running ≡ vec_capacity l.fn.running;
}

abbrev pub decreases-loop-started : goal.decreases-loop-started
decreases-loop-started g l = goal.left-loop-started g l
