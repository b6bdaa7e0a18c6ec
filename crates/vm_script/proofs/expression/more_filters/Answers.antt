use Rattle.std.proofs.Common.{◌≡◌, ◌∙◌, sym, refl, arith, rules, None, false}
use Rattle.std.specs.Prelude.{codes}
use Rattle.std.specs.Str.{bytes_eq}
use Rattle.vm_script.specs.Expression.{behind}
use Rattle.vm_script.proofs.ItemLaws.{behind_back, items_end}
use Rattle.vm_script.proofs.expression.more_filters.Goals as goal

pub items-preserved : goal.items-preserved
items-preserved c =
    let comma = rw c.in-Some.is at c.behind.ensures in
    let rest = behind_back 44 c.items.rest.now c.in-Some.item.now (sym comma) (omega arith) in
    let pushed = rw c.in-Some-2.is at c.in_ok-behind.ensures.pushed in
    record {
      utf8 = search rules;
      read = c.items.invariant.read ∙ (rw rest (sym pushed));
    }

pub returns-else-eq : goal.returns-else-eq
returns-else-eq c =
    let none : behind 44 c.items.rest.now ≡ None = search rules in
    let other : bytes_eq c.items.rest.now (codes "}") ≡ false = search rules in
    rw (c.items.invariant.read, items_end c.items.rest.now none, other) refl
