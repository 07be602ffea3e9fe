-- What a sink in memory holds.
use Rattle.std.specs.Prelude.{ℕ, List}
use Rattle.io_edges.specs.declared.mem_sink.MemSink.{MemSink}

-- what was written so far
abbrev pub sink_bytes : MemSink → List ℕ
sink_bytes sink = sink.bytes.items

-- how many bytes it takes in all
abbrev pub sink_limit : MemSink → ℕ
sink_limit sink = sink.limit

-- how many writes failed
abbrev pub sink_faults : MemSink → ℕ
sink_faults sink = sink.faults
