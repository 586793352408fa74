use Rattle.std.proofs.Common.{map, ap, ◌∙◌}
use Rattle.rank_pool.proofs.Filling.{which_tickets}
use Rattle.rank_pool.proofs.pool.run_pool.Goals as goal

pub returns-in-Ok-into_row-clause-order : goal.returns-in-Ok-into_row-clause-order
returns-in-Ok-into_row-clause-order g c =
    c.run_in.ensures.order ∙ which_tickets g.J.Job.which g.J.Job.belongs g.J.Job.over c.in-Ok-into_row.row ∙ ap (map g.J.Job.which) c.in-Ok-into_row.ensures.jobs
