use Rattle.std.proofs.Common.{◌≡◌, ◌≤◌, ◌++◌, true, length}
use Rattle.std.specs.List.{AllByRecursion}
use Rattle.vm_block.specs.Cut.{fit_one_block, joined}
use Rattle.vm_block.proofs.Cuts.{FullBefore}
use Rattle.vm_block.proofs.cutting.cut.Given as goal

abbrev pub invariant-cuts : goal.invariant-cuts
invariant-cuts l = record {
  whole : joined l.blocks ++ l.rest ≡ l.fn.samples;
  each : AllByRecursion (λ block. (1 ≤ length block) × (fit_one_block block ≡ true)) l.blocks;
  full : FullBefore l.blocks l.rest;
}

abbrev pub decreases-cuts : goal.decreases-cuts
decreases-cuts l = length l.rest
