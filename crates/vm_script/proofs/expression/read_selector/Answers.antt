use Rattle.std.proofs.Common.{◌≡◌, ◌∙◌, Some, None, sym, ap, subst, rules}
use Rattle.vm_script.specs.Expression.{Spells, filters_of, one_list}
use Rattle.vm_script.proofs.SpelledLaws.{Spells-filters_of, filters_of-Spells}
use Rattle.vm_script.proofs.expression.read_selector.Goals as goal

pub returns-in_ok-one_list-in-Some-clause-spelled :
    goal.returns-in_ok-one_list-in-Some-clause-spelled
returns-in_ok-one_list-in-Some-clause-spelled c =
    let read : filters_of c.args.text.now ≡ Some c.in-Some.filters = search rules in
    let is : c.in_ok-one_list-in-Some.field-0 ≡ one_list c.in-Some.filters = search rules in
    subst (Spells c.args.text.now) (sym is)
    (Spells-filters_of c.args.text.now c.in-Some.filters read)

pub returns-in_ok-one_list-in-Some-clause-only : goal.returns-in_ok-one_list-in-Some-clause-only
returns-in_ok-one_list-in-Some-clause-only c =
    let read : filters_of c.args.text.now ≡ Some c.in-Some.filters = search rules in
    let is : c.in_ok-one_list-in-Some.field-0 ≡ one_list c.in-Some.filters = search rules in
    λ selector spells. ap Some is
    ∙ filters_of-Spells c.args.text.now (Some c.in-Some.filters) selector (sym read) spells

pub returns-in-None-clause-only : goal.returns-in-None-clause-only
returns-in-None-clause-only c =
    let read : filters_of c.args.text.now ≡ None = search rules in
    λ selector spells. filters_of-Spells c.args.text.now None selector (sym read) spells
