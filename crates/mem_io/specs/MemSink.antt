-- What a sink in memory tells.
use Rattle.mem_io.specs.Faults.{FaultPlan}
use Rattle.mem_io.specs.declared.mem_sink.MemSink.{MemSink}

-- which of its calls are to fail
abbrev pub fault_plan_of : MemSink → FaultPlan
fault_plan_of sink = record { failing = sink.failing.items; calls = sink.calls }
