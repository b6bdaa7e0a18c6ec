use Rattle.std.proofs.Common.{arith}
use Rattle.vm_jsonline.proofs.Bare.{bare}
use Rattle.vm_jsonline.proofs.strings.is_bare.Goals as goal

pub returns-in-None : goal.returns-in-None
returns-in-None c =
    λ _. bare c.args.text.now (λ k below is. c.in-None.ensures k (omega arith) below is)
