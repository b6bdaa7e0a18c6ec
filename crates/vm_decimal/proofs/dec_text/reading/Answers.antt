use Rattle.std.proofs.Common.{◌≡◌, true, sym, ap, ◌∙◌}
use Rattle.vm_decimal.specs.DecText.{dec_reading, dec_valued, or_too_wide}
use Rattle.vm_decimal.specs.NumberMachine.{may_end}
use Rattle.vm_decimal.proofs.Readers.{reading_there}
use Rattle.vm_decimal.proofs.dec_text.reading.Goals as goal

pub returns-in-Ok : goal.returns-in-Ok
unfolding dec_reading
returns-in-Ok c =
    let reached = c.in-Ok.ensures.read in
    let now = reached.comes in
    let done : may_end now.state.phase ≡ true = ap may_end (sym now.stands.phase) ∙ reached.done in
    let reads = reading_there c.args.text.now now.state now.there done in
    c.found.ensures ∙ ap or_too_wide (c.number_read.ensures now.state now.stands reads)
    ∙ sym (ap dec_valued reads)

pub returns-in-Err : goal.returns-in-Err
unfolding dec_reading
returns-in-Err c = sym (ap dec_valued c.in-Err.ensures.wrong)
