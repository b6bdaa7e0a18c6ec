use Rattle.std.proofs.Common.{ap, ◌∙◌, take}
use Rattle.std.specs.Char.{is_ascii_digit}
use Rattle.std.specs.List.{list_all}
use Rattle.vm_promtext.proofs.TokenLaws.{front_passes}
use Rattle.vm_promtext.proofs.row.read_digits.Goals as goal

pub returns-clause-digits : goal.returns-clause-digits
returns-clause-digits c =
    ap (λ n. list_all is_ascii_digit (take n c.args.text.now)) c.digit_count-count.ensures.value
    ∙ front_passes is_ascii_digit c.args.text.now
