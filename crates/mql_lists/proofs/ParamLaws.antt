-- The machine that reads parameters reads what the grammar says, and nothing else.
use Rattle.std.specs.Prelude.{◌≡◌, ℕ, List, [], ◌∷◌, ◌++◌, Some, codes}
use Rattle.std.proofs.Common.{refl, ap, sym, subst, ◌∙◌, append-nil, append_assoc}
use Rattle.mql_expr.specs.declared.expr.Param.{Param}
use Rattle.mql_lists.specs.Words.{Word}
use Rattle.mql_lists.specs.Grammar.{IsA, SomeParams, last_param, next_param, Params, no_params, some_params, param}
use Rattle.mql_lists.specs.Laws.{GoesOn, ParamsAreRead}
use Rattle.mql_lists.specs.Machines.{word_role, params_at, params_start, params_step}
use Rattle.mql_lists.specs.Progress.{behind_step, leads}
use Rattle.mql_lists.specs.declared.class.Class.TheVariants.{Identifier, Comma, CloseRound}
use Rattle.mql_lists.specs.declared.params.ParamsReader.{ParamsReader}
use Rattle.mql_lists.specs.declared.params.Spot.{Spot}
use Rattle.mql_lists.specs.declared.params.Spot.TheVariants.{Opened, BehindName, BehindComma}
use Rattle.mql_lists.specs.declared.role.Role.{Role}
use Rattle.mql_lists.specs.declared.role.Role.TheVariants.{Free, Next, EndRound}
use Rattle.mql_lists.proofs.RoleLaws.{role_free, role_next, role_round, free_says, next_says, round_says, answer, same_parts, name_at, mark_at, round_mark, name_word}

abbrev reader : Spot → List Param → ParamsReader
reader spot params = record { params = params; spot = spot }

-- ---- what the grammar says is read

read_comma : (before : List Param) {text rest : List Word} {params : List Param}
    → SomeParams text rest params
    → leads params_step (reader BehindComma before) text ≡ Some (before ++ params, rest)
read_comma before (last_param {rest = rest} name close free is) =
    rw (role_free name free, role_round close is) refl
read_comma before
    (next_param {text = text} {rest = rest} {params = params} name comma free is more) =
    rw (role_free name free, role_next comma is)
    (read_comma (before ++ param name ∷ []) more
    ∙ ap (λ v. Some (v, rest)) (append_assoc before (param name ∷ []) params))

-- the first parameter is read as those after a comma
opened_same : (before : List Param) {text rest : List Word} {params : List Param}
    → SomeParams text rest params
    → leads params_step (reader Opened before) text
    ≡ leads params_step (reader BehindComma before) text
opened_same before (last_param name close free is) = rw (role_free name free) refl
opened_same before (next_param name comma free is more) = rw (role_free name free) refl

read : (before : List Param) {text rest : List Word} {params : List Param} → Params text rest params
    → leads params_step (reader Opened before) text ≡ Some (before ++ params, rest)
read before (no_params {rest = rest} close is) =
    rw (role_round close is) (ap (λ v. Some (v, rest)) (sym (append-nil before)))
read before (some_params are) = opened_same before are ∙ read_comma before are

-- ---- what is read the grammar says

-- what may stand after a parameter
data Behind : List Word → List Word → List Param → Type 0 where
  closed : {rest : List Word} (close : Word) → IsA CloseRound close → Behind (close ∷ rest) rest []
  parted : {text rest : List Word} {params : List Param} (comma : Word) → IsA Comma comma
      → SomeParams text rest params
      → Behind (comma ∷ text) rest params

with_param : {text rest : List Word} {params : List Param} (name : Word) → IsA Identifier name
    → Behind text rest params
    → SomeParams (name ∷ text) rest (param name ∷ params)
with_param name free (closed close is) = last_param name close free is
with_param name free (parted comma is more) = next_param name comma free is more

abbrev Tail : Spot → List Word → List Word → List Param → Type 0
Tail Opened text rest params = Params text rest params
Tail BehindName text rest params = Behind text rest params
Tail BehindComma text rest params = SomeParams text rest params

record Found (spot : Spot) (before : List Param) (text rest : List Word) (all : List Param) :
    Type 0 where
  params : List Param
  parts : all ≡ before ++ params
  are : Tail spot text rest params

found_name : (before all : List Param) (w : Word) (more rest : List Word) → IsA Identifier w
    → Found BehindName (before ++ param w ∷ []) more rest all
    → Found BehindComma before (w ∷ more) rest all
found_name before all w more rest free behind = record {
  params = param w ∷ behind.params;
  parts = behind.parts ∙ append_assoc before (param w ∷ []) behind.params;
  are = with_param w free behind.are;
}

found_end : (spot : Spot) (before all : List Param) (w : Word) (more rest : List Word)
    → ((front : List Word) → Tail spot (w ∷ front) front []) → answer before more ≡ answer all rest
    → Found spot before (w ∷ more) rest all
found_end spot before all w more rest tail is =
    let same = same_parts before all more rest is in
    record {
      params = [];
      parts = sym same.0 ∙ sym (append-nil before);
      are = subst (λ r. Tail spot (w ∷ more) r []) same.1 (tail more);
    }

from_opened : (before all : List Param) (w : Word) (more rest : List Word) (r : Role)
    → word_role w ≡ r
    → ((params : List Param) → leads params_step (reader BehindName params) more ≡ Some (all, rest)
    → Found BehindName params more rest all)
    → behind_step (params_at Opened before (param w) r) (λ next. leads params_step next more) more
    ≡ Some (all, rest)
    → Found Opened before (w ∷ more) rest all
from_opened before all w more rest Free role behind is =
    let found =
    found_name before all w more rest (free_says w role) (behind (before ++ param w ∷ []) is) in
    record { params = found.params; parts = found.parts; are = some_params found.are }
from_opened before all w more rest EndRound role behind is =
    found_end Opened before all w more rest (λ front. no_params w (round_says w role)) is
from_opened before all w more rest _ role behind is = absurd (cc is)

from_comma : (before all : List Param) (w : Word) (more rest : List Word) (r : Role)
    → word_role w ≡ r
    → ((params : List Param) → leads params_step (reader BehindName params) more ≡ Some (all, rest)
    → Found BehindName params more rest all)
    → behind_step (params_at BehindComma before (param w) r) (λ next. leads params_step next more)
    more ≡ Some (all, rest)
    → Found BehindComma before (w ∷ more) rest all
from_comma before all w more rest Free role behind is =
    found_name before all w more rest (free_says w role) (behind (before ++ param w ∷ []) is)
from_comma before all w more rest _ role behind is = absurd (cc is)

from_behind : (before all : List Param) (w : Word) (more rest : List Word) (r : Role)
    → word_role w ≡ r
    → ((params : List Param) → leads params_step (reader BehindComma params) more ≡ Some (all, rest)
    → Found BehindComma params more rest all)
    → behind_step (params_at BehindName before (param w) r) (λ next. leads params_step next more)
    more ≡ Some (all, rest)
    → Found BehindName before (w ∷ more) rest all
from_behind before all w more rest Next role behind is =
    let found = behind before is in
    record {
      params = found.params;
      parts = found.parts;
      are = parted w (next_says w role) found.are;
    }
from_behind before all w more rest EndRound role behind is =
    found_end BehindName before all w more rest (λ front. closed w (round_says w role)) is
from_behind before all w more rest _ role behind is = absurd (cc is)

from : (spot : Spot) (before all : List Param) (text rest : List Word)
    → leads params_step (reader spot before) text ≡ Some (all, rest)
    → Found spot before text rest all
from spot before all [] rest is = absurd (cc is)
from Opened before all (w ∷ more) rest is =
    from_opened before all w more rest (word_role w) refl
    (λ params. from BehindName params all more rest) is
from BehindComma before all (w ∷ more) rest is =
    from_comma before all w more rest (word_role w) refl
    (λ params. from BehindName params all more rest) is
from BehindName before all (w ∷ more) rest is =
    from_behind before all w more rest (word_role w) refl
    (λ params. from BehindComma params all more rest) is

only : (text rest : List Word) (params : List Param)
    → leads params_step params_start text ≡ Some (params, rest)
    → Params text rest params
only text rest params is =
    let found = from Opened [] params text rest is in
    subst (λ v. Params text rest v) (sym found.parts) found.are

-- ---- from each state something is read

goes_on : (spot : Spot) (params : List Param) (at : ℕ) (rest : List Word)
    → GoesOn params_step (reader spot params) at rest
goes_on Opened params at rest = record {
  more = mark_at (codes ")") at ∷ [];
  value = params;
  places = (refl, tt);
  ends = rw (round_mark at) refl;
}
goes_on BehindName params at rest = record {
  more = mark_at (codes ")") at ∷ [];
  value = params;
  places = (refl, tt);
  ends = rw (round_mark at) refl;
}
goes_on BehindComma params at rest = record {
  more = name_at at ∷ mark_at (codes ")") at ∷ [];
  value = params ++ param (name_at at) ∷ [];
  places = (refl, (refl, tt));
  ends = rw (name_word at, round_mark at) refl;
}

pub params_law : ParamsAreRead
params_law = record {
  read = λ text rest params are. read [] are;
  only = only;
  viable = λ state at rest. goes_on state.spot state.params at rest;
}
