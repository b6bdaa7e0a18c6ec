-- The law about lists, at this coding.
use Rattle.vm_codec.proofs.Spellings.{one_place}
use Rattle.vm_codec.proofs.laws.bytes_break_at_one_place.Goals as goal

pub returns : goal.returns
returns c = one_place c.args.coding c.args.first c.args.count
