use Rattle.std.proofs.Common.{◌≡◌, ◌+◌, ◌++◌, reverse, All, vec_len, vec_capacity}
use Rattle.m17_crew.proofs.many.start_all.Given as goal

-- the jobs that are left, and those that run, from the last on, are the jobs in their order
abbrev pub invariant-loop-job : goal.invariant-loop-job
invariant-loop-job g l = record {
  jobs : l.fn.jobs.items ++ reverse l.fn.running.items ≡ l.jobs.items ++ reverse l.running.items;
  ready : All g.W.Work.ready l.jobs.items;
  number : vec_len l.running + vec_len l.jobs ≡ vec_len l.fn.running + vec_len l.fn.jobs;
  jobs_room : vec_capacity l.jobs ≡ vec_capacity l.fn.jobs;
  running_room : vec_capacity l.running ≡ vec_capacity l.fn.running;
  refusals : g.C.Crew.refusals l.crew ≡ g.C.Crew.refusals l.fn.crew;
}

abbrev pub decreases-loop-job : goal.decreases-loop-job
decreases-loop-job g l = vec_len l.jobs
