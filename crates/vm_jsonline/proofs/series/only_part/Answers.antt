use Rattle.std.proofs.Common.{ap, sym, ◌∙◌}
use Rattle.std.specs.Option.{option_map}
use Rattle.vm_jsonline.proofs.KeyLaws.{key_found, key_not, key_twice, some_view}
use Rattle.vm_jsonline.proofs.series.only_part.Goals as goal
use Rattle.vm_jsonline.proofs.series.only_part.Goals.{then-branch+else-is_some, else-branch}

pub returns-then-is_some : goal.returns-then-is_some
returns-then-is_some c =
    key_twice _ c.args.name.now c.args.parts.now c.loop-part.part-index
    _ (option_map (λ v. v.now) c.loop-part.found) c.loop-part-test.true
    (sym c.in_ok-is_key.ensures ∙ c.if-branch.true)
    (some_view _ c.loop-part.found ∙ sym c.is_some.ensures ∙ c.if-is_some.true)
    c.loop-part.invariant

pub loop-part-preserved : goal.loop-part-preserved
loop-part-preserved c =
    elim c.if-branch.branch [
      | then-branch+else-is_some w ↦
          key_found _ c.args.name.now c.args.parts.now c.loop-part.part-index
          _ (option_map (λ v. v.now) c.loop-part.found)
          (option_map (λ v. v.now) c.if-branch.found) c.loop-part-test.true
          (sym c.in_ok-is_key.ensures ∙ w.if-branch.true)
          (some_view _ c.loop-part.found ∙ sym w.is_some.ensures ∙ w.if-is_some.false)
          (ap (option_map (λ v. v.now)) w.found-is) c.loop-part.invariant
      | else-branch w ↦
          key_not _ c.args.name.now c.args.parts.now c.loop-part.part-index
          _ (option_map (λ v. v.now) c.loop-part.found)
          (option_map (λ v. v.now) c.if-branch.found) c.loop-part-test.true
          (sym c.in_ok-is_key.ensures ∙ w.if-branch.false) (ap (option_map (λ v. v.now)) w.found-is)
          c.loop-part.invariant
    ]
