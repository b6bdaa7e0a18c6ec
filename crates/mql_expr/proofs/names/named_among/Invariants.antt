use Rattle.std.proofs.Common.{◌≡◌, drop}
use Rattle.mql_expr.specs.Names.{first_named}
use Rattle.mql_expr.proofs.names.named_among.Given as goal

abbrev pub invariant-loop-known : goal.invariant-loop-known
invariant-loop-known l = first_named l.all l.name ≡ first_named (drop l.known-index l.all) l.name
