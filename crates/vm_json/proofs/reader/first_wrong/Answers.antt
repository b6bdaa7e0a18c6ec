use Rattle.std.specs.Prelude.{◌≡◌, ℕ, List, Option, Some, None, IfNone, IfSome}
use Rattle.std.proofs.Common.{sym}
use Rattle.vm_base.specs.FirstWrong.{FirstWrong}
use Rattle.vm_json.specs.Grammar.{IsJson}
use Rattle.vm_json.specs.Machine.{wrong_place}
use Rattle.vm_json.proofs.Texts.{json_there, place_there}
use Rattle.vm_json.proofs.reader.first_wrong.Goals as goal

no_place : (text : List ℕ) (o : Option ℕ) → o ≡ wrong_place text → IfNone o (IsJson text)
no_place text None is = json_there text (sym is)
no_place text (Some at) is = tt

a_place : (text : List ℕ) (o : Option ℕ) → o ≡ wrong_place text
    → IfSome o (λ at. FirstWrong IsJson text at)
a_place text None is = tt
a_place text (Some at) is = place_there text at (sym is)

pub returns-clause-json : goal.returns-clause-json
returns-clause-json c = no_place c.args.text.now c.place.result c.place.ensures

pub returns-clause-wrong : goal.returns-clause-wrong
returns-clause-wrong c = a_place c.args.text.now c.place.result c.place.ensures
