use Rattle.std.proofs.Common.{◌≡◌, ◌∷◌, drop}
use Rattle.std.specs.List.{list_all}
use Rattle.std.specs.Ordering.{int_eq}
use Rattle.vm_codec.specs.Coding.{IsInBounds, differences}
use Rattle.vm_codec.proofs.choosing.go_on_by.Given as goal

abbrev pub invariant-loop-value : goal.invariant-loop-value
invariant-loop-value l = record {
  last : IsInBounds l.last;
  equal :
      list_all (int_eq l.step) (differences (l.last ∷ drop l.value-index l.values))
      ≡ list_all (int_eq l.step) (differences (l.initial.last ∷ l.values));
}
