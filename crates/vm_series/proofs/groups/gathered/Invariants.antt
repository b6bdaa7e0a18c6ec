use Rattle.std.proofs.Common.{◌≡◌, ◌≤◌, ◌-◌, ◌++◌, flat_map, length, drop}
use Rattle.vm_series.specs.Series.{rows_of_piece, series_of}
use Rattle.vm_series.proofs.groups.gathered.Given as goal

abbrev pub invariant-loop-at : goal.invariant-loop-at
invariant-loop-at l = record {
  gathered : l.all
      ++ series_of l.interval (flat_map rows_of_piece (drop l.at l.pieces))
      ≡ series_of l.interval (flat_map rows_of_piece l.pieces);
  within : l.at ≤ length l.pieces;
}

abbrev pub decreases-loop-at : goal.decreases-loop-at
decreases-loop-at l = length l.pieces - l.at
