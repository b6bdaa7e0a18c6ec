use Rattle.std.proofs.lemmas.List.{take_rest}
use Rattle.vm_promtext.proofs.TokenLaws.{quoted_ok, quoted_broken}
use Rattle.vm_promtext.proofs.quoted.quoted.Goals as goal

pub returns-in-Ok : goal.returns-in-Ok
returns-in-Ok c =
    let raw = c.in-Ok.ensures.cases in
    rw (take_rest, raw.0) (quoted_ok c.args.text.now c.in-Some.end c.in-Some.ensures.value raw.1)

pub returns-in-Err : goal.returns-in-Err
returns-in-Err c =
    rw c.wrong_in-in-Err.ensures
    (quoted_broken c.args.text.now c.in-Some.end c.in-Some.ensures.value
    c.in-Err.ensures.cases.0)
