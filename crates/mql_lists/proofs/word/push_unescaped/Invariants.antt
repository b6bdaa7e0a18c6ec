use Rattle.std.proofs.Common.{◌≡◌, ◌++◌, true, false, length, string_bytes, IsUtf8}
use Rattle.mql_lists.specs.Values.{unescaped}
use Rattle.mql_lists.proofs.word.push_unescaped.Given as goal

abbrev pub invariant-escapes : goal.invariant-escapes
invariant-escapes l = record {
  read : string_bytes l.text ++ unescaped false l.rest ≡ string_bytes l.fn.text
      ++ unescaped true l.fn.escaped;
  utf8 : IsUtf8 l.rest;
}

abbrev pub decreases-escapes : goal.decreases-escapes
decreases-escapes l = length l.rest
