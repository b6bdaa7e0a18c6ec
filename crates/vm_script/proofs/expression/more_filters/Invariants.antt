use Rattle.std.proofs.Common.{◌≡◌, length}
use Rattle.vm_script.specs.inner.Front.{with_front}
use Rattle.std.specs.Str.{IsUtf8}
use Rattle.vm_script.specs.Expression.{items_behind}
use Rattle.vm_script.proofs.expression.more_filters.Given as goal

abbrev pub invariant-items : goal.invariant-items
invariant-items l = record {
  utf8 : IsUtf8 l.rest;
  read : with_front l.fn.filters (items_behind l.text) ≡ with_front l.filters (items_behind l.rest);
}

abbrev pub decreases-items : goal.decreases-items
decreases-items l = length l.rest
