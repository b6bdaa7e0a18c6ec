use Rattle.vm_top.proofs.OneScript.{one_play}
use Rattle.vm_top.proofs.laws.a_script_prints_one_text.Goals as goal

pub returns : goal.returns
returns c = one_play
