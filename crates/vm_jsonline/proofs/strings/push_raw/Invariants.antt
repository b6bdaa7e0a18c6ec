use Rattle.std.proofs.Common.{◌≡◌, ◌++◌, drop}
use Rattle.std.specs.Option.{option_map}
use Rattle.vm_jsonline.specs.Strings.{raw_text, text_from, pieces}
use Rattle.vm_jsonline.proofs.strings.push_raw.Given as goal

abbrev pub invariant-loop-byte : goal.invariant-loop-byte
invariant-loop-byte l = option_map (λ text. l.fn.bytes.items ++ text) (raw_text l.raw)
    ≡ option_map (λ text. l.bytes.items ++ text)
    (text_from l.decoder.high (pieces l.decoder.pending (drop l.byte-index l.raw)))
