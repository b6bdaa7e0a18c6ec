use Rattle.std.proofs.Common.{sym, ◌≡◌, ◌+◌, ◌-◌, suc, length, arith}
use Rattle.vm_jsonline.proofs.Loops.{members_stop, members_out, members_on, parts_on, parts_end}
use Rattle.vm_jsonline.proofs.series.parts_inside.Goals as goal

pub returns-in_default : goal.returns-in_default
returns-in_default c =
    let none =
    members_stop (length c.args.text.now - c.loop-member._member) c.loop-member.rest.now
    (sym c.in_default.ensures) in
    parts_end _ _ _ _ c.loop-member.invariant none

pub loop-member-preserved : goal.loop-member-preserved
loop-member-preserved c =
    let fuel = length c.args.text.now - c.loop-member._member in
    let less = length c.args.text.now - (c.loop-member._member + 1) in
    let next : fuel ≡ suc less = omega arith in
    parts_on _ _ _ _ _ _ _ c.loop-member.invariant
    (members_on fuel less c.loop-member.rest.now _ next (sym c.in-Some.ensures))
    c.in_ok-push.ensures.items

pub returns : goal.returns
returns c =
    let none =
    members_out (length c.args.text.now - c.loop-member._member) c.loop-member.rest.now
    (omega arith) in
    parts_end _ _ _ _ c.loop-member.invariant none
