-- The law about rows, at these.
use Rattle.vm_series.proofs.SeriesLaws.{samples-series_of}
use Rattle.vm_series.proofs.laws.series_have_what_is_seen.Goals as goal

pub returns : goal.returns
returns c = samples-series_of c.args.interval c.args.rows.now
