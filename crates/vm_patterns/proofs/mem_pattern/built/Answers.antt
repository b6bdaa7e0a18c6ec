use Rattle.vm_patterns.proofs.PatternLaws.{is_meant}
use Rattle.vm_patterns.proofs.mem_pattern.built.Goals as goal

pub invariant_of-result : goal.invariant_of-result
invariant_of-result c =
    let read =
    rw (c.as_str.ensures.value, c.in_ok-whole.ensures) at c.in_ok-whole-2.ensures.source in
    record { meant = rw c.in_ok-text.ensures (is_meant _ c.args.text.now read) }
