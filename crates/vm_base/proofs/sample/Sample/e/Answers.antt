use Rattle.std.proofs.Common.{sym, ◌∙◌, arith}
use Rattle.std.proofs.lemmas.Int.{ints}
use Rattle.vm_base.proofs.SampleForms.{exponent_is}
use Rattle.vm_base.proofs.sample.Sample.e.Goals as goal

pub returns-clause-value : goal.returns-clause-value
returns-clause-value c =
    omega (arith, ints)
    ∙ sym (exponent_is c.self.inside c.args.self c.self.invariant c.self.view_is)
