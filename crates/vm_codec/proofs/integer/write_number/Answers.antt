-- The bytes so far, put before those that are to come.
use Rattle.std.proofs.Common.{arith}
use Rattle.vm_codec.proofs.Written.{one_byte, last_byte}
use Rattle.vm_codec.proofs.integer.write_number.Goals as goal

pub groups-preserved : goal.groups-preserved
groups-preserved c =
    one_byte c.args.at c.groups.end c.args.number c.groups.left c.groups.into c.args.into.now
    (omega (arith, c.groups.invariant.few))
    c.groups-test.true c.groups.invariant

pub returns-clause-front : goal.returns-clause-front
returns-clause-front c =
    last_byte c.args.at c.groups.end c.args.number c.groups.left c.groups.into c.args.into.now
    (omega (arith, c.groups.invariant.few))
    c.groups-test.false c.groups.invariant
