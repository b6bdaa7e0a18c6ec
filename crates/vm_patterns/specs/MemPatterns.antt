-- What is known of a builder of patterns in memory.
use Rattle.std.specs.Prelude.{ℕ, Bool, true, false, List, Result, Ok, Err}
use Rattle.vm_outside.specs.declared.failing_calls.FailingCalls.{FailingCalls}
use Rattle.vm_patterns.specs.declared.mem_pattern.MemPattern.{MemPattern}
use Rattle.vm_patterns.specs.declared.mem_patterns.MemPatterns.{MemPatterns}
use Rattle.vm_outside.specs.declared.patterns.PatternFault.{PatternFault}
use Rattle.vm_outside.specs.declared.patterns.PatternFault.TheVariants.{Syntax, Refused, Memory}

-- which of its calls are to be refused
abbrev pub calls_of : MemPatterns → FailingCalls
calls_of patterns = patterns.calls

-- how many were refused
abbrev pub refusals_of : MemPatterns → ℕ
refusals_of patterns = patterns.refused

-- the text of a pattern
abbrev pub text_of : MemPattern → List ℕ
text_of pattern = pattern.text

-- whether an answer is a refusal
abbrev pub is_refused : Result MemPattern PatternFault → Bool
is_refused (Ok pattern) = false
is_refused (Err Syntax) = false
is_refused (Err Refused) = true
is_refused (Err Memory) = false
