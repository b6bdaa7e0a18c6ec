use Rattle.std.proofs.lemmas.Str.Pattern.{strip_prefix_char}
use Rattle.vm_script.proofs.ItemLaws.{stripped}
use Rattle.vm_script.proofs.expression.behind.Goals as goal

pub returns : goal.returns
returns c =
    let cases =
    strip_prefix_char c.args.first c.args.text.now c.strip_prefix.result
    c.strip_prefix.ensures.cases c.requires.ascii in
    stripped c.args.first c.args.text.now c.strip_prefix.result cases c.requires.some
