-- What is known of a source over bytes in memory.
use Rattle.std.specs.Prelude.{ℕ, List, drop}
use Rattle.vm_outside.specs.declared.failing_calls.FailingCalls.{FailingCalls}
use Rattle.vm_outside.specs.declared.mem_source.MemSource.{MemSource}

-- the bytes that it has left to give
abbrev pub left_of : MemSource → List ℕ
left_of source = drop source.at source.bytes.items

-- how many of its calls failed
abbrev pub faults_of : MemSource → ℕ
faults_of source = source.failed

-- which of its calls are to fail
abbrev pub calls_of : MemSource → FailingCalls
calls_of source = source.calls
