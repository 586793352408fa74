use Rattle.std.proofs.Common.{◌*◌}
use Rattle.part_geometry.specs.Cells.{start}
use Rattle.plain_pair.specs.Stored.{Stores}
use Rattle.plain_pair.proofs.marking.store.Given as goal

abbrev pub invariant-loop-c : goal.invariant-loop-c
invariant-loop-c l = Stores l.tables l.base (l.p * l.tables.send_bytes) (start l.tables l.c) l.bytes l.fn.buffers.items l.buffers.items
