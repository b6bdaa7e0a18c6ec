use Rattle.vm_outside.specs.Files.{content}
use Rattle.vm_outside.proofs.RecordLaws.{nothing_left, nothing_replayed}
use Rattle.vm_outside.proofs.mem_disk.MemDisk.holding.Goals as goal

pub returns-clause-left : goal.returns-clause-left
returns-clause-left c f left is =
    let at_first = c.in_ok-set.ensures.set f in
    let now = c.in_ok-set-2.ensures.set f in
    let same =
    nothing_left (content c.set.new.self) c.args.self.calls.items c.requires.first f left is in
    let held =
    nothing_replayed (content c.args.self.first) c.args.self.calls.items c.requires.first f in
    let replays = c.args.self.replays f in
    cc (
      at_first,
      now,
      same,
      held,
      replays,
      c.in_ok-from_slice.ensures.items,
      c.in_ok-from_slice-2.ensures.items,
    )
