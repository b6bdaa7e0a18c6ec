-- A group more is a byte more.
use Rattle.vm_codec.proofs.Written.{one_counted, all_counted}
use Rattle.vm_codec.proofs.integer.number_len.Goals as goal

pub groups-preserved : goal.groups-preserved
groups-preserved c =
    one_counted c.groups.len c.groups.left c.args.number c.groups-test.true c.groups.invariant

pub returns-clause-value : goal.returns-clause-value
returns-clause-value c =
    all_counted c.groups.len c.groups.left c.args.number c.groups-test.false c.groups.invariant
