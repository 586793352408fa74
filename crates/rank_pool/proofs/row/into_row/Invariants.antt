use Rattle.std.proofs.Common.{◌≡◌, ◌+◌, ◌++◌, map, vec_len, vec_capacity}
use Rattle.rank_pool.specs.Jobs.{Waits}
use Rattle.rank_pool.proofs.row.into_row.Given as goal

abbrev pub invariant-loop : goal.invariant-loop
invariant-loop g l = record {
  jobs : l.jobs.items ++ map (λ x. x.job) l.row ≡ l.fn.jobs.items;
  waits : Waits g.J.Job.which g.J.Job.belongs l.shared (vec_len l.jobs) l.row;
  count : vec_len l.jobs + l.counter ≡ vec_len l.fn.jobs;
  room : vec_capacity l.jobs ≡ vec_capacity l.fn.jobs;
}
