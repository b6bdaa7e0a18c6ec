-- Which calls of an object in memory are to fail.
use Rattle.std.specs.Prelude.{◌≡◌, Contains}
use Rattle.vm_outside.specs.Outside.{raised}
use Rattle.vm_outside.specs.declared.failing_calls.FailingCalls.{FailingCalls}

-- the next call is one of those that are to fail
abbrev pub FailsNext : FailingCalls → Type 0
FailsNext calls = Contains calls.numbers.items calls.next

-- the same calls are to fail, and the next call is the one after
abbrev pub GoesOn : FailingCalls → FailingCalls → Type 0
GoesOn old new = new ≡ record old { next = raised old.next }
