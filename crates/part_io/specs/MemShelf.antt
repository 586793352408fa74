-- What a shelf in memory holds, of which chosen reads fail.
use Rattle.std.specs.Prelude.{ℕ, List, Option}
use Rattle.part_io.specs.declared.mem_shelf.MemShelf.{MemShelf}
use Rattle.part_io.specs.SteadyShelf as steady

-- the bytes that the shelf has under a name
abbrev pub held : MemShelf → List ℕ → Option (List ℕ)
held shelf name = steady.held shelf.shelf name

-- the numbers of the reads that fail
abbrev pub failing_reads : MemShelf → List ℕ
failing_reads shelf = shelf.failing.items

-- how many reads there were: the number of the next one
abbrev pub read_count : MemShelf → ℕ
read_count shelf = shelf.reads

-- how many reads have failed
abbrev pub shelf_faults : MemShelf → ℕ
shelf_faults shelf = shelf.faults
