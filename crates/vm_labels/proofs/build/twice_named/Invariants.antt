use Rattle.std.proofs.Common.{◌≡◌, List, ℕ, drop, []}
use Rattle.vm_labels.specs.Labels.{text_cmp, twice_named, is_among}
use Rattle.std.specs.BTreeSet.{contains_by}
use Rattle.vm_labels.proofs.BuildLaws.{names_before}
use Rattle.vm_labels.proofs.build.twice_named.Given as goal

abbrev pub invariant-loop-pair : goal.invariant-loop-pair
invariant-loop-pair l = record {
  seen : (q : List ℕ)
      → contains_by (λ k. text_cmp q k.now) l.seen ≡ is_among (names_before l.pair-index l.pairs) q;
  so_far : twice_named (names_before l.pair-index l.pairs) (drop l.pair-index l.pairs)
      ≡ twice_named [] l.pairs;
}
