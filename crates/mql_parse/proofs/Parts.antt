-- What the machines of parts read.
use Rattle.std.specs.Prelude.{◌≡◌, ℕ, List, [], Some}
use Rattle.mql_expr.specs.declared.item.Item.{Item}
use Rattle.mql_expr.specs.declared.expr.Param.{Param}
use Rattle.mql_lists.specs.Words.{Word}
use Rattle.mql_lists.specs.Progress.{leads}
use Rattle.mql_lists.specs.Grammar.{Names, Params, Braces}
use Rattle.mql_lists.specs.Laws.{GoesOn}
use Rattle.mql_lists.specs.Machines.{names_step, names_start, params_step, params_start, braces_step, braces_start}
use Rattle.mql_lists.specs.declared.names.NamesReader.{NamesReader}
use Rattle.mql_lists.specs.declared.params.ParamsReader.{ParamsReader}
use Rattle.mql_lists.specs.declared.braces.BracesReader.{BracesReader}
use Rattle.mql_lists.proofs.BraceLaws.{braces_law}
use Rattle.mql_lists.proofs.NameLaws.{names_law}
use Rattle.mql_lists.proofs.ParamLaws.{params_law}

pub names_read : {text rest : List Word} {v : List (List ℕ)} → Names text rest v
    → leads names_step names_start text ≡ Some (v, rest)
names_read {text} {rest} {v} x = names_law.read text rest v x

pub params_read : {text rest : List Word} {v : List Param} → Params text rest v
    → leads params_step params_start text ≡ Some (v, rest)
params_read {text} {rest} {v} x = params_law.read text rest v x

pub braces_read : {text rest : List Word} {v : List (List Item)} → Braces text rest v
    → leads braces_step braces_start text ≡ Some (v, rest)
braces_read {text} {rest} {v} x = braces_law.read text rest v x

pub names_from : {text rest : List Word} {v : List (List ℕ)}
    → leads names_step names_start text ≡ Some (v, rest) → Names text rest v
names_from {text} {rest} {v} x = names_law.only text rest v x

pub params_from : {text rest : List Word} {v : List Param}
    → leads params_step params_start text ≡ Some (v, rest) → Params text rest v
params_from {text} {rest} {v} x = params_law.only text rest v x

pub braces_from : {text rest : List Word} {v : List (List Item)}
    → leads braces_step braces_start text ≡ Some (v, rest) → Braces text rest v
braces_from {text} {rest} {v} x = braces_law.only text rest v x

pub names_viable : (at : ℕ) (s : NamesReader) → GoesOn names_step s at []
names_viable at s = names_law.viable s at []

pub params_viable : (at : ℕ) (s : ParamsReader) → GoesOn params_step s at []
params_viable at s = params_law.viable s at []

pub braces_viable : (at : ℕ) (s : BracesReader) → GoesOn braces_step s at []
braces_viable at s = braces_law.viable s at []
