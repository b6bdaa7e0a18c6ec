use Rattle.std.proofs.Common.{◌≡◌, take}
use Rattle.vm_patterns.specs.inner.Expressions.{texts_of}
use Rattle.vm_patterns.proofs.mem_pattern.texts.Given as goal

abbrev pub invariant-loop-group : goal.invariant-loop-group
invariant-loop-group l = l.texts ≡ texts_of l.captures (take l.group-index l.groups)
