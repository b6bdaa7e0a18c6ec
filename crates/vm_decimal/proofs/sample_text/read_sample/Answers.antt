-- The answer is the computed one, of which the laws say what it means.
use Rattle.std.proofs.Common.{ap, ◌∙◌, Ok, Err}
use Rattle.vm_decimal.specs.SampleReading.{sample_reading, value_reading}
use Rattle.vm_decimal.specs.declared.sample_text.SampleText.TheVariants.{Value, NoNumber}
use Rattle.vm_decimal.specs.declared.sample_text.NumFault.TheVariants.{NotANumber, TooWide}
use Rattle.vm_decimal.proofs.SampleReadings.{answers}
use Rattle.vm_decimal.proofs.sample_text.read_sample.Goals as goal

pub returns-clause-reading : goal.returns-clause-reading
unfolding sample_reading
returns-clause-reading c = c.answer.ensures
    ∙ ap (value_reading c.args.text.now) c.number_value.ensures

pub returns-clause-value : goal.returns-clause-value
returns-clause-value c z =
    rw (returns-clause-reading c) (answers c.args.text.now (Ok (Value z)))

pub returns-clause-no_number : goal.returns-clause-no_number
returns-clause-no_number c =
    rw (returns-clause-reading c) (answers c.args.text.now (Ok NoNumber))

pub returns-clause-too_wide : goal.returns-clause-too_wide
returns-clause-too_wide c =
    rw (returns-clause-reading c) (answers c.args.text.now (Err TooWide))

pub returns-clause-not_a_number : goal.returns-clause-not_a_number
returns-clause-not_a_number c at =
    rw (returns-clause-reading c) (answers c.args.text.now (Err (NotANumber at)))
