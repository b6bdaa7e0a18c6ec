use Rattle.std.proofs.Common.{◌++◌, length, get_or, ap, ◌∙◌}
use Rattle.std.specs.Int.{w64, to_be_bytes}
use Rattle.vm_index.proofs.BytesLaws.{numbers_more}
use Rattle.vm_index.proofs.bytes.put_numbers.Goals as goal

pub loop-number-preserved : goal.loop-number-preserved
loop-number-preserved c =
    let n = get_or c.args.numbers.now c.loop-number.number-index 0 in
    c.in_ok-put_number-2.ensures
    ∙ ap (λ bs. bs ++ to_be_bytes w64 n) c.loop-number.invariant
    ∙ numbers_more (to_be_bytes w64) c.args.out.now.items
    (to_be_bytes w64 (length c.args.numbers.now)) c.args.numbers.now c.loop-number.number-index
    c.loop-number-test.true
