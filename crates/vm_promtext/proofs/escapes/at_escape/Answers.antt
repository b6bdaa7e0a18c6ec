use Rattle.std.proofs.Common.{arith}
use Rattle.vm_promtext.proofs.EscapeLaws.{no_slash, first_slash}
use Rattle.vm_promtext.proofs.escapes.at_escape.Goals as goal

pub returns-in-None-clause-plain : goal.returns-in-None-clause-plain
returns-in-None-clause-plain c =
    no_slash c.args.text.now (c.in-None.ensures.byte (omega arith) (λ w o is. is))

pub returns-in-Some-clause-escaped : goal.returns-in-Some-clause-escaped
returns-in-Some-clause-escaped c =
    let found = c.in-Some.ensures.byte (omega arith) (λ w o is. is) in
    rw (found.0, found.1) (first_slash c.args.text.now found.2)
