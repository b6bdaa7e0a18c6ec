use Rattle.std.proofs.Common.{◌≡◌, Result, Ok, Err}
use Rattle.std.specs.Prelude.{ℕ, List, IfOk}
use Rattle.vm_promtext.specs.Means.{IsReading}
use Rattle.vm_promtext.specs.Reading.{reading}
use Rattle.vm_promtext.specs.declared.line.Line.{Line}
use Rattle.vm_promtext.proofs.LineLaws.{all_mean}
use Rattle.vm_promtext.proofs.line.read_line.Goals as goal

all_ok : {E : Type 0} (now : ℕ) (line : List ℕ) (r : Result Line E)
    → IfOk r (λ said. said ≡ reading now line) → IfOk r (IsReading now line)
all_ok now line (Ok said) is = all_mean now line said is
all_ok now line (Err e) is = tt

pub returns-clause-meaning : goal.returns-clause-meaning
returns-clause-meaning c = all_ok c.args.now c.args.line.now c.any_line.result c.any_line.ensures
