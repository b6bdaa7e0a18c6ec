-- Where the body breaks.
use Rattle.vm_part.proofs.blocks.read_body.Goals as goal

pub returns-in-Err-Broken-clause-broken : goal.returns-in-Err-Broken-clause-broken
returns-in-Err-Broken-clause-broken c =
    rw c.in-Err-Broken.field-0-is at c.in-Err-Broken.ensures.broken
