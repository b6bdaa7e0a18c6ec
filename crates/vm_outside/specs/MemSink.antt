-- What is known of a sink in memory.
use Rattle.std.specs.Prelude.{ℕ, List}
use Rattle.vm_outside.specs.declared.failing_calls.FailingCalls.{FailingCalls}
use Rattle.vm_outside.specs.declared.mem_sink.MemSink.{MemSink}

-- the bytes that it took
abbrev pub taken_of : MemSink → List ℕ
taken_of sink = sink.taken.items

-- how many of its calls failed
abbrev pub faults_of : MemSink → ℕ
faults_of sink = sink.failed

-- which of its calls are to fail
abbrev pub calls_of : MemSink → FailingCalls
calls_of sink = sink.calls
