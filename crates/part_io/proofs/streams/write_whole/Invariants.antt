-- What is done of the piece is in the writer.
use Rattle.std.proofs.Common.{◌≤◌, length, take}
use Rattle.std.specs.Io.KnownBytes.{Appends}
use Rattle.part_io.proofs.streams.write_whole.Given as goal

abbrev pub invariant-loop : goal.invariant-loop
invariant-loop g l = (l.done ≤ length l.piece) × Appends (g.W.Write.contents l.initial.writer) (g.W.Write.contents l.writer) (take l.done l.piece)
