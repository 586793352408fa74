use Rattle.std.proofs.Common.{◌≡◌, ◌∙◌, ◌+◌, sym, ap, ℕ, max, pos, to_z, of_z, w64}
use Rattle.std.specs.Int.{int_max}
use Rattle.cell_lanes.specs.Change.{IsChange, change_within}
use Rattle.cell_lanes.proofs.ChangeFacts.{change-append, change-back}
use Rattle.residual_ring.proofs.ChangeFacts.{greater-is-change, int_max-is}
use Rattle.residual_ring.proofs.change.joined_change.Goals as goal

pub returns-clause-change : goal.returns-clause-change
returns-clause-change c old new top rows more left cols up down =
    let first = change_within old new top rows left cols in
    let behind = change_within old new (top + rows) more left cols in
    let is : c.max.result ≡ pos (max first behind) =
    c.max.ensures.value ∙ ap (λ z. int_max z (to_z w64 (of_z w64 c.args.own))) (change-back c.args.above c.requires.above ∙ up)
    ∙ ap (int_max (pos first)) (change-back c.args.own c.requires.own ∙ down) ∙ int_max-is first behind in
    let small : IsChange c.max.result = greater-is-change c.args.above c.args.own c.max.result c.requires.above c.requires.own c.max.ensures.value in
    change-back c.max.result small ∙ is ∙ ap (λ (m : ℕ). pos m) (sym (change-append old new top rows more left cols))
