-- Which arguments functions and aggregates take. (MetricsQL, "MetricsQL functions")
use Rattle.std.specs.Prelude.{ℕ, ◌-◌, ◌%◌, ◌==◌, ◌&&◌, nat_lt, nat_le, Bool, true, false, List, [], ◌∷◌, length, slice_get, Option, Some, None, if◌then◌else◌}
use Rattle.mql_expr.specs.declared.arguments.Kind.{Kind}
use Rattle.mql_expr.specs.declared.arguments.Kind.TheVariants.{Series, Selector, Count as Counted, Positive, LabelName, Quoted, Numeric}
use Rattle.mql_expr.specs.declared.arguments.Rest.{Rest}
use Rattle.mql_expr.specs.declared.arguments.Rest.TheVariants.{Nothing, Perhaps, Each, Pairs}
use Rattle.mql_expr.specs.declared.names.Rollup.{Rollup}
use Rattle.mql_expr.specs.declared.names.Rollup.TheVariants.{DefaultRollup, LastOverTime, FirstOverTime, MinOverTime, MaxOverTime, AvgOverTime}
use Rattle.mql_expr.specs.declared.names.Aggregate.{Aggregate}
use Rattle.mql_expr.specs.declared.names.Aggregate.TheVariants.{Topk, Bottomk, Limitk, CountValues}
use Rattle.mql_expr.specs.declared.names.Function.{Function}
use Rattle.mql_expr.specs.declared.names.Function.TheVariants.{Abs, Sgn, Round, Clamp, ClampMin, ClampMax, Scalar, Time, Absent, LabelSet, LabelDel, LabelKeep, LabelCopy, LabelJoin, LabelReplace, Union}
use Rattle.mql_expr.specs.declared.names.Known.{Known}
use Rattle.mql_expr.specs.declared.names.Known.TheVariants.{OfWindow, OfGroup, OfPoints}

-- the arguments that a call of an aggregate has
abbrev pub aggregate_kinds : Aggregate → List Kind
aggregate_kinds Topk = Counted ∷ Series ∷ []
aggregate_kinds Bottomk = Counted ∷ Series ∷ []
aggregate_kinds Limitk = Counted ∷ Series ∷ []
aggregate_kinds CountValues = LabelName ∷ Series ∷ []
aggregate_kinds _ = Series ∷ []

-- the arguments that a call of a function begins with
abbrev pub function_kinds : Function → List Kind
function_kinds Clamp = Series ∷ Numeric ∷ Numeric ∷ []
function_kinds ClampMin = Series ∷ Numeric ∷ []
function_kinds ClampMax = Series ∷ Numeric ∷ []
function_kinds Time = []
function_kinds LabelSet = Series ∷ LabelName ∷ Quoted ∷ []
function_kinds LabelDel = Series ∷ LabelName ∷ []
function_kinds LabelKeep = Series ∷ LabelName ∷ []
function_kinds LabelCopy = Series ∷ LabelName ∷ LabelName ∷ []
function_kinds LabelJoin = Series ∷ LabelName ∷ Quoted ∷ LabelName ∷ []
function_kinds LabelReplace = Series ∷ LabelName ∷ Quoted ∷ LabelName ∷ Quoted ∷ []
function_kinds _ = Series ∷ []

-- the arguments that a call begins with
abbrev pub first_kinds : Known → List Kind
first_kinds (OfWindow rollup) = Selector ∷ []
first_kinds (OfGroup aggregate) = aggregate_kinds aggregate
first_kinds (OfPoints function) = function_kinds function

-- the arguments that a call of a function may have after these
abbrev pub function_rest : Function → Rest
function_rest Round = Perhaps Positive
function_rest LabelSet = Pairs LabelName Quoted
function_rest LabelCopy = Pairs LabelName LabelName
function_rest LabelDel = Each LabelName
function_rest LabelKeep = Each LabelName
function_rest LabelJoin = Each LabelName
function_rest Union = Each Series
function_rest _ = Nothing

-- the arguments that it may have after these
abbrev pub rest_of : Known → Rest
rest_of (OfPoints function) = function_rest function
rest_of _ = Nothing

-- what an argument is that has so many of these before it
abbrev pub rest_kind : Rest → ℕ → Option Kind
rest_kind Nothing index = None
rest_kind (Perhaps kind) index = if index == 0 then Some kind else None
rest_kind (Each kind) index = Some kind
rest_kind (Pairs one other) index = if index % 2 == 0 then Some one else Some other

-- what the argument at an index is, counted from 0; none may stand where there is no kind
abbrev pub kind_at : List Kind → Rest → ℕ → Option Kind
kind_at first rest index =
    if nat_lt index (length first) then slice_get first index
    else rest_kind rest (index - length first)

-- whether so many of these are whole pairs, where they come in pairs
abbrev pub are_whole : Rest → ℕ → Bool
are_whole (Pairs one other) count = count % 2 == 0
are_whole _ count = true

-- whether a call may have so many arguments and no more
abbrev pub may_end : List Kind → Rest → ℕ → Bool
may_end first rest count =
    nat_le (length first) count && are_whole rest (count - length first)

-- whether the lines of a result keep the metric's name without `keep_metric_names`
abbrev pub rollup_keeps : Rollup → Bool
rollup_keeps DefaultRollup = true
rollup_keeps LastOverTime = true
rollup_keeps FirstOverTime = true
rollup_keeps MinOverTime = true
rollup_keeps MaxOverTime = true
rollup_keeps AvgOverTime = true
rollup_keeps _ = false

-- the same of a function over points or labels
abbrev pub function_keeps : Function → Bool
function_keeps Abs = false
function_keeps Sgn = false
function_keeps Scalar = false
function_keeps Time = false
function_keeps Absent = false
function_keeps _ = true

-- the same of any function or aggregate
abbrev pub keeps_name : Known → Bool
keeps_name (OfWindow rollup) = rollup_keeps rollup
keeps_name (OfGroup aggregate) = false
keeps_name (OfPoints function) = function_keeps function
