use Rattle.std.proofs.Common.{◌∙◌, ap, sym, option_map, Some}
use Rattle.vm_patterns.specs.Patterns.{group_texts}
use Rattle.vm_patterns.proofs.PatternLaws.{bytes_are, texts_of_match}
use Rattle.vm_patterns.proofs.mem_pattern.MemPatternPattern.groups.Goals as goal

pub returns-in-Some-clause-value : goal.returns-in-Some-clause-value
returns-in-Some-clause-value c =
    let value = c.args.value.now in
    let found = c.in-Some.ensures.found in
    ap Some (c.in_ok-texts-in-Some.ensures
    ∙ texts_of_match value found.0 c.in-Some.captures found.2)
    ∙ sym (ap (option_map (group_texts value)) (rw c.in_ok-matcher.ensures.pattern at found.1))
    ∙ c.args.self.now.meant.1 value (bytes_are value (λ k. (c.type_inv.value k).fits))

pub returns-clause-value : goal.returns-clause-value
returns-clause-value c =
    let value = c.args.value.now in
    sym (ap (option_map (group_texts value))
    (rw c.in_ok-matcher.ensures.pattern at c.in-None.ensures.found))
    ∙ c.args.self.now.meant.1 value (bytes_are value (λ k. (c.type_inv.value k).fits))
