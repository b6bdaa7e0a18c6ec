use Rattle.std.proofs.Common.{◌+◌, ◌^◌, ◌≤◌, length}
use Rattle.mql_parse.specs.Values.{length_behind, AsFar}
use Rattle.mql_parse.proofs.duration.added.Given as goal

abbrev pub invariant-bytes : goal.invariant-bytes
invariant-bytes l = record {
  few : (l.sum.0 ≤ 2 ^ 48) × (l.sum.1.0 ≤ 2 ^ 48) × (l.sum.1.1.0 ≤ 2 ^ 48);
  ms : AsFar (l.sum.0 + (length_behind l.sum.1.1.0 l.rest).ms) (length_behind 0 l.fn.text).ms;
  steps : AsFar (l.sum.1.0 + (length_behind l.sum.1.1.0 l.rest).steps)
      (length_behind 0 l.fn.text).steps;
}

abbrev pub decreases-bytes : goal.decreases-bytes
decreases-bytes l = length l.rest
