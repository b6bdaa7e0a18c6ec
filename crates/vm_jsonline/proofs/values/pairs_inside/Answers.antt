use Rattle.std.proofs.Common.{ap, sym, ◌∙◌, ◌≡◌, ◌+◌, ◌-◌, suc, length, arith}
use Rattle.std.proofs.lemmas.Result.{err_from_is_err_and}
use Rattle.vm_jsonline.specs.Reading.{pair_at}
use Rattle.vm_jsonline.proofs.Loops.{members_stop, members_out, members_on, onto, onto_end, onto_on, fails_all}
use Rattle.vm_jsonline.proofs.values.pairs_inside.Goals as goal

pub returns-in_default : goal.returns-in_default
returns-in_default c =
    c.loop-member.invariant
    ∙ onto_end pair_at c.loop-member.pairs
    _ (members_stop (length c.args.text.now - c.loop-member._member) c.loop-member.rest.now
    (sym c.in_default.ensures))

pub returns-in_err-read_pair : goal.returns-in_err-read_pair
returns-in_err-read_pair c =
    let fuel = length c.args.text.now - c.loop-member._member in
    let less = length c.args.text.now - (c.loop-member._member + 1) in
    let next : fuel ≡ suc less = omega arith in
    let p = err_from_is_err_and c.from_residual.result c.from_residual.ensures.1 in
    rw (p.1, p.2)
    (fails_all pair_at c.loop-member.pairs c.in_err-read_pair.field-0.0
    _ _ _ (c.loop-member.invariant
    ∙ ap (onto pair_at c.loop-member.pairs)
    (members_on fuel less c.loop-member.rest.now _ next (sym c.in-Some.ensures)))
    c.in_err-read_pair.ensures)

pub loop-member-preserved : goal.loop-member-preserved
loop-member-preserved c =
    let fuel = length c.args.text.now - c.loop-member._member in
    let less = length c.args.text.now - (c.loop-member._member + 1) in
    let next : fuel ≡ suc less = omega arith in
    c.loop-member.invariant
    ∙ ap (onto pair_at c.loop-member.pairs)
    (members_on fuel less c.loop-member.rest.now _ next (sym c.in-Some.ensures))
    ∙ onto_on pair_at c.loop-member.pairs _ _ _ _ c.in_ok-read_pair.ensures c.in_ok-push.ensures.ok

pub returns : goal.returns
returns c =
    c.loop-member.invariant
    ∙ onto_end pair_at c.loop-member.pairs
    _ (members_out (length c.args.text.now - c.loop-member._member) c.loop-member.rest.now
    (omega arith))
