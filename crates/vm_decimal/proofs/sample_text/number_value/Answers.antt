use Rattle.std.proofs.Common.{◌≡◌, sym, ap, ◌∙◌, true, Ok}
use Rattle.vm_decimal.specs.NumberMachine.{may_end}
use Rattle.vm_decimal.specs.SampleReading.{valued}
use Rattle.vm_decimal.proofs.Readers.{reading_there}
use Rattle.vm_decimal.proofs.sample_text.number_value.Goals as goal

pub returns : goal.returns
returns c =
    let reached = c.in_ok-reader.ensures.read in
    let now = reached.comes in
    let done : may_end now.state.phase ≡ true = ap may_end (sym now.stands.phase) ∙ reached.done in
    ap Ok (c.value.ensures now.state now.stands)
    ∙ sym (ap valued (reading_there c.args.text.now now.state now.there done))
