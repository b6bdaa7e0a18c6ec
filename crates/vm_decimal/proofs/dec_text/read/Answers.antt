-- The answer is the computed one, of which the laws say what it means.
use Rattle.std.proofs.Common.{ap, ◌∙◌, Ok, Err}
use Rattle.vm_decimal.specs.DecText.{dec_reading}
use Rattle.vm_decimal.specs.declared.sample_text.NumFault.TheVariants.{NotANumber, TooWide}
use Rattle.vm_decimal.proofs.DecReadings.{dec_answers}
use Rattle.vm_decimal.proofs.PrintedTexts.{printed_read}
use Rattle.vm_decimal.proofs.dec_text.read.Goals as goal

pub returns-clause-value : goal.returns-clause-value
returns-clause-value c z = rw c.reading.ensures (dec_answers c.args.text.now (Ok z))

pub returns-clause-too_wide : goal.returns-clause-too_wide
returns-clause-too_wide c = rw c.reading.ensures (dec_answers c.args.text.now (Err TooWide))

pub returns-clause-not_a_number : goal.returns-clause-not_a_number
returns-clause-not_a_number c at =
    rw c.reading.ensures (dec_answers c.args.text.now (Err (NotANumber at)))

pub returns-clause-printed : goal.returns-clause-printed
returns-clause-printed c z is text = c.reading.ensures ∙ ap dec_reading text ∙ printed_read z is
