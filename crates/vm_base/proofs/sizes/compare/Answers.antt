use Rattle.std.proofs.Common.{◌*◌, ◌^◌, ap, sym, ◌∙◌, arith}
use Rattle.std.proofs.lemmas.Cmp.{nat_cmp_total}
use Rattle.std.specs.Ordering.{ordering_reverse}
use Rattle.vm_base.proofs.Noughts.{same_shift, higher_shift}
use Rattle.vm_base.proofs.sizes.compare.Goals as goal

pub returns-then-one-two : goal.returns-then-one-two
returns-then-one-two c =
    let one = c.args.one in
    let two = c.args.two in
    c.cmp.ensures ∙ same_shift one.size two.size one.shift two.shift c.if-one-two.true

pub returns-then-one-two-2 : goal.returns-then-one-two-2
returns-then-one-two-2 c =
    let one = c.args.one in
    let two = c.args.two in
    let raised = c.compare_raised.ensures
    ∙ higher_shift two.size one.size two.shift one.shift (omega arith) in
    c.reverse.ensures ∙ ap ordering_reverse raised
    ∙ sym (nat_cmp_total.antisymm (one.size * 10 ^ one.shift) (two.size * 10 ^ two.shift))

pub returns : goal.returns
returns c =
    let one = c.args.one in
    let two = c.args.two in
    c.compare_raised-2.ensures
    ∙ higher_shift one.size two.size one.shift two.shift c.if-one-two-2.false
