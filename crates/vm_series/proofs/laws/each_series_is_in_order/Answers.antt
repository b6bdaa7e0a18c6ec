-- The law about rows, at these.
use Rattle.vm_series.proofs.SeriesLaws.{are_series}
use Rattle.vm_series.proofs.laws.each_series_is_in_order.Goals as goal

pub returns : goal.returns
returns c = are_series c.args.interval c.args.rows.now
