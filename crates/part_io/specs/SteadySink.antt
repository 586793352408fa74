-- What a sink in memory holds, and what it has room for.
use Rattle.std.specs.Prelude.{ℕ, List}
use Rattle.part_io.specs.declared.steady_sink.SteadySink.{SteadySink}

-- the bytes written so far
abbrev pub sink_bytes : SteadySink → List ℕ
sink_bytes sink = sink.bytes.items

-- how many bytes the sink still takes
abbrev pub room_left : SteadySink → ℕ
room_left sink = sink.left

-- how many pieces did not fit
abbrev pub sink_faults : SteadySink → ℕ
sink_faults sink = sink.faults
