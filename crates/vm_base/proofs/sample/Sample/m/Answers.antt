use Rattle.std.proofs.Common.{arith}
use Rattle.std.proofs.lemmas.Int.{ints}
use Rattle.vm_base.proofs.SampleForms.{mantissa_is}
use Rattle.vm_base.proofs.sample.Sample.m.Goals as goal

pub returns-then-self-clause-value : goal.returns-then-self-clause-value
returns-then-self-clause-value c =
    let is = mantissa_is c.self.inside c.args.self c.self.invariant c.self.view_is in
    rw (is, c.if-self.true) (omega (arith, ints))

pub returns-else-self-clause-value : goal.returns-else-self-clause-value
returns-else-self-clause-value c =
    let is = mantissa_is c.self.inside c.args.self c.self.invariant c.self.view_is in
    rw (is, c.if-self.false) (omega (arith, ints))
