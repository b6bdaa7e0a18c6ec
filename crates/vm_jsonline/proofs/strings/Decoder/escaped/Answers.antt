use Rattle.std.proofs.Common.{◌≡◌, false, arith}
use Rattle.std.specs.Prelude.{◌==◌}
use Rattle.std.proofs.lemmas.Bool.Decides.{nat_tests}
use Rattle.vm_jsonline.proofs.strings.Decoder.escaped.Goals as goal

pub returns : goal.returns
returns c = λ more.
    let other : (c.args.byte == 117) ≡ false = grind (arith, nat_tests) in
    rw (other, ← c.letter_unit.ensures) (c.unit.ensures more)
