use Rattle.vm_script.proofs.TextLaws.{text_in-text, text_in-none}
use Rattle.vm_script.proofs.command.text_of.Goals as goal

pub returns-in-Ok : goal.returns-in-Ok
returns-in-Ok c = text_in-text _ _ c.in-Ok.ensures.cases.0 c.in-Ok.ensures.cases.1

pub returns-in-Err : goal.returns-in-Err
returns-in-Err c = text_in-none _ c.in-Err.ensures.cases.0
