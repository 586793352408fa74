use Rattle.std.proofs.Common.{◌≡◌, rules, arith}
use Rattle.part_geometry.specs.Cells.{cells}
use Rattle.part_geometry.proofs.Bounds.{start-zero, start-last}
use Rattle.part_geometry.proofs.BoundsLaw.{are_bounds}
use Rattle.part_geometry.proofs.ReaderFacts.{cells-few}
use Rattle.part_geometry.proofs.geometry.Geometry.cells.Goals as goal

pub overflow_add-count : goal.overflow_add-count
overflow_add-count c =
    let v = c.walk-walk.ensures.limits in
    let few = cells-few _ v in let s = v.send_parts.1 in let r = v.recv_parts.1 in omega arith

pub returns-clause-bounds : goal.returns-clause-bounds
returns-clause-bounds c = are_bounds _ c.walk-walk.ensures.limits

pub returns-clause-whole : goal.returns-clause-whole
returns-clause-whole c =
    let all : c.loop-walk.count ≡ cells c.args.self.now = search rules in
    (start-zero _, rw all (start-last _ c.walk-walk.ensures.limits))

pub returns-clause-limits : goal.returns-clause-limits
returns-clause-limits c =
    let all : c.loop-walk.count ≡ cells c.args.self.now = search rules in
    rw all (cells-few _ c.walk-walk.ensures.limits)
