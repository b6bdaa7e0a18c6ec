use Rattle.std.proofs.Common.{◌≡◌, ◌++◌, true, false, length, string_bytes, IsUtf8}
use Rattle.vm_promtext.specs.Quoted.{decoded}
use Rattle.vm_promtext.proofs.escapes.push_decoded.Given as goal

abbrev pub invariant-escapes : goal.invariant-escapes
invariant-escapes l = record {
  read : string_bytes l.text ++ decoded false l.rest ≡ string_bytes l.fn.text
      ++ decoded true l.fn.escaped;
  utf8 : IsUtf8 l.rest;
}

abbrev pub decreases-escapes : goal.decreases-escapes
decreases-escapes l = length l.rest
