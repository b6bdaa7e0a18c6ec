use Rattle.std.proofs.Common.{◌≡◌, take, Some}
use Rattle.vm_base.specs.Run.{run}
use Rattle.vm_json.specs.Machine.{at, step, start}
use Rattle.vm_json.proofs.reader.place.Given as goal

abbrev pub invariant-loop-at : goal.invariant-loop-at
invariant-loop-at l = run step start (take l.at l.text) ≡ Some (at l.phase l.inside)
