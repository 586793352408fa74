use Rattle.std.proofs.Common.{◌≡◌, ◌++◌, map, vec_capacity}
use Rattle.rank_pool.proofs.row.put_back.Given as goal

abbrev pub invariant-loop-ticket : goal.invariant-loop-ticket
invariant-loop-ticket g l = record {
  items : l.jobs.items ≡ l.fn.jobs.items ++ map (λ x. x.job) l.yielded;
  room : vec_capacity l.jobs ≡ vec_capacity l.fn.jobs;
  rest : l.yielded ++ l.ticket-iterator ≡ l.initial.ticket-iterator;
}
