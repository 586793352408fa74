-- What a sink in memory holds, of which chosen writes fail.
use Rattle.std.specs.Prelude.{ℕ, List}
use Rattle.part_io.specs.declared.mem_sink.MemSink.{MemSink}
use Rattle.part_io.specs.SteadySink.{sink_bytes, room_left}

-- the bytes written so far
abbrev pub mem_bytes : MemSink → List ℕ
mem_bytes sink = sink_bytes sink.sink

-- how many bytes the sink still takes
abbrev pub mem_room : MemSink → ℕ
mem_room sink = room_left sink.sink

-- the numbers of the writes that fail
abbrev pub failing_writes : MemSink → List ℕ
failing_writes sink = sink.failing.items

-- how many writes there were: the number of the next one
abbrev pub write_count : MemSink → ℕ
write_count sink = sink.writes

-- how many writes have failed
abbrev pub mem_faults : MemSink → ℕ
mem_faults sink = sink.faults
