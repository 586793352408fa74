use Rattle.std.proofs.Common.{◌≡◌, ◌++◌, List, ℕ, length}
use Rattle.grid_text.specs.Kept.{AreKept}
use Rattle.grid_text.specs.Reader.{IsReading, left_of}
use Rattle.grid_text.specs.Records.{records_of}
use Rattle.grid_text.proofs.rows.read_rows.Given as goal

abbrev pub invariant-loop-rows : goal.invariant-loop-rows
invariant-loop-rows l =
    IsReading l.reader × ((before : List (List (List ℕ))) × (records_of l.fn.text ≡ before ++ left_of l.reader) × AreKept l.kind before l.rows)

abbrev pub decreases-loop-rows : goal.decreases-loop-rows
decreases-loop-rows l = length (left_of l.reader)
