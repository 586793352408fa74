-- A read that fails gives nothing, and the block keeps its length.
use Rattle.std.proofs.Common.{◌≡◌, length}
use Rattle.std.specs.Io.KnownBytes.{Keeps}
use Rattle.part_io.proofs.file_shelf.read_some.Given as goal

abbrev pub invariant-loop : goal.invariant-loop
invariant-loop g l = (length l.block ≡ length l.initial.block) × Keeps (g.R.Read.remaining l.initial.reader) (g.R.Read.remaining l.reader)
