use Rattle.std.proofs.Common.{◌≡◌, ◌++◌, flat_map, take}
use Rattle.vm_top.specs.Reply.{next_series}
use Rattle.vm_top.proofs.reply.write_more_series.Given as goal

abbrev pub invariant-loop-valued : goal.invariant-loop-valued
invariant-loop-valued l = l.body.items ≡ l.fn.body.items
    ++ flat_map (next_series l.time) (take l.valued-index l.values)
