use Rattle.std.proofs.Common.{◌≡◌}
use Rattle.rank_pool.proofs.ticket.Parcel.take_turns.Given as goal

abbrev pub invariant-loop : goal.invariant-loop
invariant-loop g l = record {
  number : l.self.number ≡ l.fn.self.number;
  home : l.self.home ≡ l.fn.self.home;
  belongs : g.J.Job.belongs l.self.job l.shared;
  which : g.J.Job.which l.self.job ≡ g.J.Job.which l.fn.self.job;
}
