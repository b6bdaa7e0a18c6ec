use Rattle.vm_json.proofs.Nestings.{length-brackets}
use Rattle.vm_json.proofs.nesting.Nesting.has_room.Goals as goal

pub returns : goal.returns
returns c =
    let len = length-brackets c.self.inside.count c.self.inside.bits in
    cc
