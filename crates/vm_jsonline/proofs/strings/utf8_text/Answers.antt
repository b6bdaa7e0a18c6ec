use Rattle.std.proofs.Common.{ap, sym, ◌∙◌, Some}
use Rattle.vm_jsonline.proofs.Bare.{utf8_some, utf8_none}
use Rattle.vm_jsonline.proofs.strings.utf8_text.Goals as goal

pub returns-in_ok-from_str-in-Ok : goal.returns-in_ok-from_str-in-Ok
returns-in_ok-from_str-in-Ok c =
    let cases = c.in-Ok.ensures.cases in
    ap Some (c.in_ok-from_str-in-Ok.ensures ∙ cases.0) ∙ sym (utf8_some c.args.bytes.now cases.1)

pub returns-in-Err : goal.returns-in-Err
returns-in-Err c = sym (utf8_none c.args.bytes.now c.in-Err.ensures.cases.0)
