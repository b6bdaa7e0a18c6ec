use Rattle.std.proofs.Common.{[], ◌∷◌, ◌++◌, IfErr, append_assoc, sym, ap, ◌∙◌}
use Rattle.std.specs.Vec.Iter.{into_iter_items}
use Rattle.vm_top.specs.Replay.{Refuses, no_batch, next_batch}
use Rattle.vm_top.proofs.ActLaws.{at_err}
use Rattle.vm_top.proofs.act.import_all.Goals as goal

pub loop-batch-init : goal.loop-batch-init
loop-batch-init c = record {
  items = c.into_iter-batch-iterator.ensures.into_iter_gives.0 ∙ c.into_vec-batch-items.ensures;
  accepts = no_batch c.args.machine.now;
}

pub loop-batch-preserved : goal.loop-batch-preserved
loop-batch-preserved c =
    let at = c.loop-batch in
    record {
      items = append_assoc at.yielded (c.in-Some.batch ∷ []) (into_iter_items c.next.new.self)
          ∙ ap (λ rest. at.yielded ++ rest) (sym c.in-Some.ensures.steps.0) ∙ at.invariant.items;
      accepts =
          next_batch c.args.machine.now at.machine c.import.new.self at.yielded c.in-Some.batch
          at.invariant.accepts c.in_ok-import.ensures;
    }

pub returns-in_err-import-clause-refused : goal.returns-in_err-import-clause-refused
returns-in_err-import-clause-refused c =
    let at = c.loop-batch in
    let refuses :
    Refuses c.args.machine.now c.args.batches c.import.new.self c.in_err-import.field-0.0 =
    record {
      first = at.yielded;
      batch = c.in-Some.batch;
      more = into_iter_items c.next.new.self;
      are = sym at.invariant.items ∙ ap (λ rest. at.yielded ++ rest) c.in-Some.ensures.steps.0;
      mid = at.machine;
      accepts = at.invariant.accepts;
      steps = c.in_err-import.ensures;
    } in
    at_err (λ result.
    IfErr result (λ why. Refuses c.args.machine.now c.args.batches c.import.new.self why))
    c.from_residual.result c.in_err-import.field-0.0 c.from_residual.ensures.1 refuses
