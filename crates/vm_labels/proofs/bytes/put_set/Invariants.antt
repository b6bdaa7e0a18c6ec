use Rattle.std.proofs.Common.{◌≡◌, ◌++◌, length, take}
use Rattle.std.specs.Int.{w16, to_be_bytes}
use Rattle.std.specs.List.{AllByRecursion}
use Rattle.std.specs.Prelude.{flat_map}
use Rattle.std.specs.Str.{IsUtf8}
use Rattle.vm_labels.specs.Bytes.{pair_bytes}
use Rattle.vm_labels.proofs.bytes.put_set.Given as goal

abbrev pub invariant-loop-pair : goal.invariant-loop-pair
invariant-loop-pair l = record {
  bytes : l.out.items ≡ l.fn.out.items
      ++ (to_be_bytes w16 (length l.pairs) ++ flat_map pair_bytes (take l.pair-index l.pairs));
  texts : AllByRecursion (λ p. IsUtf8 p.value) (take l.pair-index l.pairs);
}
