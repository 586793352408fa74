use Rattle.std.proofs.Common.{◌≡◌, length, take}
use Rattle.part_recv.specs.Taking.{bytes_in}
use Rattle.part_recv.proofs.arrival.Arrival.copy_into.Given as goal

abbrev pub invariant-loop-cell : goal.invariant-loop-cell
invariant-loop-cell g l = (l.at ≡ length (bytes_in (take l.cell l.self-inside.shelf.bufs))) × (take l.at l.out ≡ bytes_in (take l.cell l.self-inside.shelf.bufs))
