use Rattle.std.proofs.Common.{◌+◌, arith}
use Rattle.part_geometry.proofs.Bounds.{start-rises, start-within, end-start}
use Rattle.part_geometry.proofs.geometry.Geometry.cell.Goals as goal

pub returns-clause-inside : goal.returns-clause-inside
returns-clause-inside c =
    let g = c.args.self.now in let w = c.whole_cell-cell.ensures in
    let rise = start-rises g w.limits c.args.c c.requires in
    let within = start-within g w.limits (c.args.c + 1) (omega arith) in
    let e = end-start g c.args.c in
    rw w.value (omega arith, omega arith)

pub returns-clause-next : goal.returns-clause-next
returns-clause-next c = rw c.whole_cell-cell.ensures.value (end-start _ _)
