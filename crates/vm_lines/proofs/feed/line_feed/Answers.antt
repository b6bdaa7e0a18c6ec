use Rattle.std.proofs.lemmas.List.{take_rest}
use Rattle.vm_lines.proofs.LineLaws.{clear_behind, feed_behind}
use Rattle.vm_lines.proofs.feed.line_feed.Goals as goal

pub returns-in-Some : goal.returns-in-Some
returns-in-Some c =
    feed_behind c.args.bytes.now c.args.searched c.in-Some.at c.requires.clear
    (rw take_rest at c.in-Some.ensures)

pub returns-in-None : goal.returns-in-None
returns-in-None c =
    clear_behind c.args.bytes.now c.args.searched c.requires.clear
    (rw take_rest at c.in-None.ensures)
