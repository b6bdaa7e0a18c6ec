use Rattle.std.proofs.Common.{◌≡◌, ◌≤◌, drop}
use Rattle.vm_jsonline.specs.Parts.{behind_value}
use Rattle.vm_jsonline.specs.declared.parts.Mode.TheVariants.{Outside}
use Rattle.vm_jsonline.proofs.parts.behind_value.Given as goal

abbrev pub invariant-loop-at : goal.invariant-loop-at
invariant-loop-at l = record {
  behind : behind_value 0 Outside l.text ≡ behind_value l.depth l.mode (drop l.at l.text);
  near : l.depth ≤ l.at;
}
