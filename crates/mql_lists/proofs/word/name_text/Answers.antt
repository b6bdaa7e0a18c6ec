use Rattle.mql_lists.proofs.TextLaws.{name_end}
use Rattle.mql_lists.proofs.word.name_text.Goals as goal

pub range-requires-clause-end_boundary : goal.range-requires-clause-end_boundary
range-requires-clause-end_boundary c =
    name_end c.args.text.now c.args.token c.utf8.text c.requires.stands c.requires.name
