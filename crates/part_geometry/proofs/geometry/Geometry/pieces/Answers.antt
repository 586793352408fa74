use Rattle.std.proofs.Common.{◌-◌, arith}
use Rattle.part_geometry.proofs.Division.{the_division}
use Rattle.part_geometry.proofs.PieceFacts.{pieces-le}
use Rattle.part_geometry.proofs.ReaderFacts.{piece_of-last}
use Rattle.part_geometry.proofs.geometry.Geometry.pieces.Goals as goal

pub overflow_add-result : goal.overflow_add-result
overflow_add-result c =
    let h = c.piece_of.ensures.holds.inside in
    let few = pieces-le c.args.self.now in let n = c.cells.ensures.value in let l = c.cells.ensures.limits in
    omega arith

pub returns-clause-value : goal.returns-clause-value
returns-clause-value c =
    let last = piece_of-last c.args.self.now (c.cells.result - 1) (let n = c.cells.ensures.value in let l = c.cells.ensures.limits in omega arith) in
    rw c.piece_of.ensures.value last

pub returns-clause-division : goal.returns-clause-division
returns-clause-division c = the_division _

pub returns-clause-limits : goal.returns-clause-limits
returns-clause-limits c =
    let h = c.piece_of.ensures.holds.inside in
    let few = pieces-le c.args.self.now in (omega arith, omega arith)
