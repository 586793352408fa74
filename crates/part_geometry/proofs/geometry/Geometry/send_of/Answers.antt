use Rattle.part_geometry.proofs.Parts.{send-below, send_end-le}
use Rattle.part_geometry.proofs.ReaderFacts.{send-starts}
use Rattle.part_geometry.proofs.geometry.Geometry.send_of.Goals as goal

pub returns-clause-inside : goal.returns-clause-inside
returns-clause-inside c =
    let w = c.whole_cell.ensures in rw w.value (send-below _ w.limits _ c.requires)

pub returns-clause-starts : goal.returns-clause-starts
returns-clause-starts c =
    let w = c.whole_cell.ensures in rw w.value (send-starts _ w.limits _)

pub returns-clause-ends : goal.returns-clause-ends
returns-clause-ends c =
    let w = c.whole_cell.ensures in rw w.value (send_end-le _ w.limits _ c.requires)
