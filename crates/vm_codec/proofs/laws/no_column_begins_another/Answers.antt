-- The law about lists, at this coding.
use Rattle.vm_codec.proofs.Spellings.{no_column_begins}
use Rattle.vm_codec.proofs.laws.no_column_begins_another.Goals as goal

pub returns-clause-values : goal.returns-clause-values
returns-clause-values c =
    λ values others bytes more one two.
    (no_column_begins c.args.coding c.args.first c.args.count values others bytes more one
    two).0

pub returns-clause-bytes : goal.returns-clause-bytes
returns-clause-bytes c =
    λ values others bytes more one two.
    (no_column_begins c.args.coding c.args.first c.args.count values others bytes more one
    two).1
