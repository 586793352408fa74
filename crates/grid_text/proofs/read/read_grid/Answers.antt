use Rattle.std.proofs.Common.{rules}
use Rattle.std.proofs.lemmas.Result.{err_from_is_err_and}
use Rattle.grid_text.specs.declared.rows.TextKind.TheVariants.{Grid}
use Rattle.grid_text.proofs.ReadFacts.{grid-fault, grid-limits, grid-ok, grid-values, values-count}
use Rattle.grid_text.proofs.read.read_grid.Goals as goal

pub returns-in_err-rows-clause-fault : goal.returns-in_err-rows-clause-fault
returns-in_err-rows-clause-fault c =
    let p = err_from_is_err_and c.from_residual.result c.from_residual.ensures.1 in
    rw (p.1, p.2) (λ real. grid-fault c.args.text.now _ (c.in_err-rows.ensures.fault real))

pub from_values-requires-clause-cols : goal.from_values-requires-clause-cols
from_values-requires-clause-cols c =
    let limits = grid-limits c.args.text.now c.in_ok-rows.rows c.in_ok-rows.ensures.faultless c.in_ok-rows.ensures.kept in
    (limits.2, limits.3)

pub from_values-requires-clause-length : goal.from_values-requires-clause-length
from_values-requires-clause-length c =
    let n = values-count Grid c.args.text.now c.in_ok-rows.rows c.in_ok-rows.ensures.kept in
    let o = c.in_ok-rows.rows.values.ok in
    search (rules, n, o)

pub from_values-requires-clause-values : goal.from_values-requires-clause-values
from_values-requires-clause-values c = grid-values c.args.text.now c.in_ok-rows.rows c.in_ok-rows.ensures.kept

pub returns-clause-ok : goal.returns-clause-ok
returns-clause-ok c =
    rw c.from_values.ensures.value (grid-ok c.args.text.now c.in_ok-rows.rows c.in_ok-rows.ensures.faultless c.in_ok-rows.ensures.kept)
