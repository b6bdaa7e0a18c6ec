use Rattle.vm_patterns.proofs.PatternLaws.{is_expression, is_no_expression}
use Rattle.vm_patterns.proofs.mem_pattern.compiled.Goals as goal

pub returns-in-Ok-clause-ok : goal.returns-in-Ok-clause-ok
returns-in-Ok-clause-ok c =
    let made = c.in-Ok.ensures in
    λ _. is_expression _ _ _ (rw (made.source, made.config) at made.read)

pub returns-in-Err-Syntax-clause-syntax : goal.returns-in-Err-Syntax-clause-syntax
returns-in-Err-Syntax-clause-syntax c =
    let made = c.in-Err-Syntax.ensures in
    λ _ short.
    is_no_expression _ _ (made.by_grammar _ c.in-Err-Syntax.field-0-is)
    (rw c.in-Err-Syntax.field-0-is at made.kind) short

pub returns-in-Err-CompiledTooBig-clause-refused :
    goal.returns-in-Err-CompiledTooBig-clause-refused
returns-in-Err-CompiledTooBig-clause-refused c =
    let pattern = rw c.in-Err-CompiledTooBig.field-0-is at c.in-Err-CompiledTooBig.ensures.kind in
    λ _. is_expression _ pattern.0 pattern.1 pattern.2
