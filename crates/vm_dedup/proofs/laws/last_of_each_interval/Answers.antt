-- The law about lists, at these.
use Rattle.vm_dedup.proofs.Intervals.{thinned-last, thinned-all}
use Rattle.vm_dedup.proofs.laws.last_of_each_interval.Goals as goal

pub returns-clause-last : goal.returns-clause-last
returns-clause-last c = thinned-last c.args.interval c.args.samples.now c.requires

pub returns-clause-all : goal.returns-clause-all
returns-clause-all c = thinned-all c.args.samples.now
