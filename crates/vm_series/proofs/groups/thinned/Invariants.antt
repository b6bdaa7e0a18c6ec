use Rattle.std.proofs.Common.{◌≡◌, ◌++◌, drop}
use Rattle.vm_base.specs.Thinned.{thinned}
use Rattle.vm_series.proofs.groups.thinned.Given as goal

abbrev pub invariant-loop-sample : goal.invariant-loop-sample
invariant-loop-sample l = record {
  thinned : l.kept
      ++ thinned l.interval (l.dedup.held ++ drop l.sample-index l.samples)
      ≡ thinned l.interval l.samples;
  interval : l.dedup.interval ≡ l.interval;
}
