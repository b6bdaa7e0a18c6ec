use Rattle.std.proofs.Common.{◌≡◌, Result, Ok, Err}
use Rattle.std.specs.Prelude.{ℕ, List, IfOk}
use Rattle.vm_jsonline.specs.Means.{IsReading}
use Rattle.vm_jsonline.specs.Reading.{reading}
use Rattle.vm_jsonline.specs.declared.line.JsonLine.{JsonLine}
use Rattle.vm_jsonline.proofs.LineLaws.{all_mean}
use Rattle.vm_jsonline.proofs.line.read_line.Goals as goal

all_ok : {E : Type 0} (line : List ℕ) (r : Result JsonLine E) → IfOk r (λ said. said ≡ reading line)
    → IfOk r (IsReading line)
all_ok line (Ok said) is = all_mean line said is
all_ok line (Err e) is = tt

pub returns-clause-meaning : goal.returns-clause-meaning
returns-clause-meaning c = all_ok c.args.line.now c.any_line.result c.any_line.ensures
