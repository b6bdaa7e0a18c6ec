-- The first block is all, where all fit.
use Rattle.vm_block.proofs.OneCut.{fills}
use Rattle.vm_block.proofs.samples.fill_one_block.Goals as goal

pub returns : goal.returns
returns c =
    let said = c.block_len.ensures in
    fills c.args.samples.now c.block_len.result said.some said.within said.fits said.longest
