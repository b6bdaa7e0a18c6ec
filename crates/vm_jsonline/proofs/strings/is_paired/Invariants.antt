use Rattle.std.proofs.Common.{◌≡◌, drop}
use Rattle.std.specs.Prelude.{is_some}
use Rattle.vm_jsonline.specs.Strings.{raw_text, text_from, pieces}
use Rattle.vm_jsonline.proofs.strings.is_paired.Given as goal

abbrev pub invariant-loop-byte : goal.invariant-loop-byte
invariant-loop-byte l =
    is_some (raw_text l.text)
    ≡ is_some (text_from l.decoder.high (pieces l.decoder.pending (drop l.byte-index l.text)))
