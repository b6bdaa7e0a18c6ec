use Rattle.std.proofs.Common.{◌+◌, refl, ◌∙◌}
use Rattle.vm_decimal.proofs.Wholes.{whole_shift}
use Rattle.vm_decimal.proofs.whole.whole_number.Goals as goal

pub returns : goal.returns
returns c =
    let bare = c.without_noughts-size in
    c.of_parts.ensures
    ∙ whole_shift c.args.negative c.args.size bare.result.0 bare.result.1 (1000 + bare.result.1)
    bare.ensures.whole refl
