use Rattle.std.proofs.Common.{arith, map, string_bytes, Global}
use Rattle.std.proofs.lemmas.List.{length-map}
use Rattle.vm_top.proofs.WordLaws.{last_of-long}
use Rattle.vm_top.proofs.words.last_of.Goals as goal

pub returns-in_default-clause-value : goal.returns-in_default-clause-value
returns-in_default-clause-value c =
    last_of-long (map (string_bytes {Z = Global}) c.args.before.now)
    (map (string_bytes {Z = Global}) c.args.after.now)
    (omega (arith, length-map c.args.before.now (string_bytes {Z = Global})))
