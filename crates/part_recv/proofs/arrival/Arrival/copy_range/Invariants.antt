use Rattle.std.proofs.Common.{length, take}
use Rattle.part_recv.specs.Taking.{bytes_in}
use Rattle.part_recv.proofs.Bytes.{IsCopied}
use Rattle.part_recv.proofs.arrival.Arrival.copy_range.Given as goal

-- what is wanted of the first cells' bytes is copied
abbrev pub invariant-loop-cell : goal.invariant-loop-cell
invariant-loop-cell g l = IsCopied (bytes_in l.self-inside.shelf.bufs) l.out (length l.fn.out) l.start (length (bytes_in (take l.cell l.self-inside.shelf.bufs))) l.skip l.at
