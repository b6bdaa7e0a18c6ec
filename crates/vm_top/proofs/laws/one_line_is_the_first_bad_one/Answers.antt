use Rattle.vm_top.proofs.OneScript.{one_bad_line}
use Rattle.vm_top.proofs.ScriptLaws.{no_bad_line}
use Rattle.vm_top.proofs.laws.one_line_is_the_first_bad_one.Goals as goal

pub returns : goal.returns
returns c = record { one = one_bad_line; none = no_bad_line }
