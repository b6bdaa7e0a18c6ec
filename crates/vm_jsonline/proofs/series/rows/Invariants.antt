use Rattle.std.proofs.Common.{◌≡◌, ◌++◌, drop}
use Rattle.vm_jsonline.specs.Series.{rows_of}
use Rattle.vm_jsonline.proofs.series.rows.Given as goal

abbrev pub invariant-loop-at : goal.invariant-loop-at
invariant-loop-at l = rows_of l.labels l.samples l.times ≡ l.rows
    ++ rows_of l.labels (drop l.at l.samples) (drop l.at l.times)
