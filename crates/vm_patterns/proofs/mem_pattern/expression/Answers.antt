use Rattle.std.proofs.Common.{true≢false, sym}
use Rattle.vm_patterns.proofs.PatternLaws.{is_expression, is_no_expression, not_of_syntax, ok_is_no_syntax}
use Rattle.vm_patterns.proofs.mem_pattern.expression.Goals.{in-Ok, in-Err}
use Rattle.vm_patterns.proofs.mem_pattern.expression.Goals as goal

pub returns-clause-ok : goal.returns-clause-ok
returns-clause-ok c = elim c.match-parse.branch [
  | in-Ok w ↦ λ _. is_expression _ _ _ (rw c.default.ensures at w.in-Ok.ensures.ok)
  | in-Err w ↦ λ ok. absurd (true≢false (sym (rw w.result-is at ok)))
]

pub returns-clause-syntax : goal.returns-clause-syntax
returns-clause-syntax c = elim c.match-parse.branch [
  | in-Ok w ↦ λ fault. absurd (ok_is_no_syntax _ (rw w.result-is at fault))
  | in-Err w ↦
      λ fault.
      is_no_expression _ _ (rw c.default.ensures at w.in-Err.ensures.err)
      (not_of_syntax _ _ w.fault_of.ensures.memory (rw w.result-is at fault))
]
