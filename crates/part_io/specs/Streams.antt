-- What a sink over a writer passes on to it.
use Rattle.std.specs.Prelude.{ℕ, ◌≤◌, List, length, take, Option, Result, Ok, Err}
use Rattle.std.specs.Io.KnownBytes.{Appends}
use Rattle.part_io.specs.declared.streams.OutSink.{OutSink}
use Rattle.part_io.specs.declared.streams.NoteSink.{NoteSink}

-- a writer that tells its bytes has the whole piece behind them, or on an error some front of it
abbrev pub PassesOn : {E : Type 0} → Option (List ℕ) → Option (List ℕ) → List ℕ → Result (Unit {0}) E → Type 0
PassesOn old new piece (Ok _) = Appends old new piece
PassesOn old new piece (Err _) = (n : ℕ) × (n ≤ length piece) × Appends old new (take n piece)

-- what the writer of the sink holds, by what writers of its type tell
abbrev pub out_contents : {W : Type 0} → (W → Option (List ℕ)) → OutSink W → Option (List ℕ)
out_contents contents sink = contents sink.writer

-- the same of a sink for notes
abbrev pub note_contents : {W : Type 0} → (W → Option (List ℕ)) → NoteSink W → Option (List ℕ)
note_contents contents sink = contents sink.writer
