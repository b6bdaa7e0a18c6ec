-- One series more.
use Rattle.std.proofs.Common.{◌+◌, [], take, sym, subst}
use Rattle.vm_part.specs.inner.Making.{ArePut}
use Rattle.vm_part.proofs.BuildLaws.{none_put, one_put}
use Rattle.vm_part.proofs.build.put_series.Goals as goal

pub loop-one-init : goal.loop-one-init
loop-one-init c =
    let out = c.args.out.now.items in
    subst (λ entries. ArePut [] out out entries) (sym c.new-entries.ensures) (none_put out)

pub loop-one-preserved : goal.loop-one-preserved
loop-one-preserved c =
    let series = c.args.series.now in
    let before = c.args.out.now.items in
    let after = c.put_blocks.new.out.items in
    subst (λ entries. ArePut (take (c.loop-one.one-index + 1) series) before after entries)
    (sym c.in_ok-push.ensures.ok)
    (one_put series c.loop-one.one-index c.one-item.result c.as_slice.result.now before
    c.loop-one.out.items after c.loop-one.entries c.in_ok-entry.entry
    c.loop-one-test.true c.one-item.is c.as_slice.ensures c.loop-one.invariant
    c.in_ok-entry.ensures)
