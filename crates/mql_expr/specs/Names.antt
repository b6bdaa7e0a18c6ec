-- The names of functions and aggregates. (MetricsQL, "MetricsQL functions")
use Rattle.std.specs.Prelude.{ℕ, Bool, List, [], ◌∷◌, ◌++◌, map, find, Option, codes}
use Rattle.std.specs.Str.{str_eq_ignore_ascii_case}
use Rattle.mql_expr.specs.declared.names.Rollup.{Rollup}
use Rattle.mql_expr.specs.declared.names.Rollup.TheVariants.{DefaultRollup, LastOverTime, FirstOverTime, MinOverTime, MaxOverTime, AvgOverTime, SumOverTime, CountOverTime, DistinctOverTime, PresentOverTime, RangeOverTime, Changes, Resets, Delta, Increase, Rate, DerivFast, Idelta, Ideriv, Irate, Lag, Lifetime, TfirstOverTime, TlastOverTime, TminOverTime, TmaxOverTime}
use Rattle.mql_expr.specs.declared.names.Aggregate.{Aggregate}
use Rattle.mql_expr.specs.declared.names.Aggregate.TheVariants.{Sum, Min, Max, Count, Avg, Group, Any, Topk, Bottomk, Limitk, CountValues}
use Rattle.mql_expr.specs.declared.names.Function.{Function}
use Rattle.mql_expr.specs.declared.names.Function.TheVariants.{Abs, Sgn, Ceil, Floor, Round, Clamp, ClampMin, ClampMax, Scalar, Vector, Time, Absent, LabelSet, LabelDel, LabelKeep, LabelCopy, LabelJoin, LabelReplace, Union, Sort, SortDesc}
use Rattle.mql_expr.specs.declared.names.Known.{Known}
use Rattle.mql_expr.specs.declared.names.Known.TheVariants.{OfWindow, OfGroup, OfPoints}

-- the name of a function over the samples in a window, in lower case
abbrev pub rollup_name : Rollup → List ℕ
rollup_name DefaultRollup = codes "default_rollup"
rollup_name LastOverTime = codes "last_over_time"
rollup_name FirstOverTime = codes "first_over_time"
rollup_name MinOverTime = codes "min_over_time"
rollup_name MaxOverTime = codes "max_over_time"
rollup_name AvgOverTime = codes "avg_over_time"
rollup_name SumOverTime = codes "sum_over_time"
rollup_name CountOverTime = codes "count_over_time"
rollup_name DistinctOverTime = codes "distinct_over_time"
rollup_name PresentOverTime = codes "present_over_time"
rollup_name RangeOverTime = codes "range_over_time"
rollup_name Changes = codes "changes"
rollup_name Resets = codes "resets"
rollup_name Delta = codes "delta"
rollup_name Increase = codes "increase"
rollup_name Rate = codes "rate"
rollup_name DerivFast = codes "deriv_fast"
rollup_name Idelta = codes "idelta"
rollup_name Ideriv = codes "ideriv"
rollup_name Irate = codes "irate"
rollup_name Lag = codes "lag"
rollup_name Lifetime = codes "lifetime"
rollup_name TfirstOverTime = codes "tfirst_over_time"
rollup_name TlastOverTime = codes "tlast_over_time"
rollup_name TminOverTime = codes "tmin_over_time"
rollup_name TmaxOverTime = codes "tmax_over_time"

-- the name of an aggregate, in lower case
abbrev pub aggregate_name : Aggregate → List ℕ
aggregate_name Sum = codes "sum"
aggregate_name Min = codes "min"
aggregate_name Max = codes "max"
aggregate_name Count = codes "count"
aggregate_name Avg = codes "avg"
aggregate_name Group = codes "group"
aggregate_name Any = codes "any"
aggregate_name Topk = codes "topk"
aggregate_name Bottomk = codes "bottomk"
aggregate_name Limitk = codes "limitk"
aggregate_name CountValues = codes "count_values"

-- the name of a function over points or labels, in lower case
abbrev pub function_name : Function → List ℕ
function_name Abs = codes "abs"
function_name Sgn = codes "sgn"
function_name Ceil = codes "ceil"
function_name Floor = codes "floor"
function_name Round = codes "round"
function_name Clamp = codes "clamp"
function_name ClampMin = codes "clamp_min"
function_name ClampMax = codes "clamp_max"
function_name Scalar = codes "scalar"
function_name Vector = codes "vector"
function_name Time = codes "time"
function_name Absent = codes "absent"
function_name LabelSet = codes "label_set"
function_name LabelDel = codes "label_del"
function_name LabelKeep = codes "label_keep"
function_name LabelCopy = codes "label_copy"
function_name LabelJoin = codes "label_join"
function_name LabelReplace = codes "label_replace"
function_name Union = codes "union"
function_name Sort = codes "sort"
function_name SortDesc = codes "sort_desc"

-- the name of any of these
abbrev pub name_of : Known → List ℕ
name_of (OfWindow rollup) = rollup_name rollup
name_of (OfGroup aggregate) = aggregate_name aggregate
name_of (OfPoints function) = function_name function

-- all functions over the samples in a window
abbrev pub rollups : List Rollup
rollups =
    DefaultRollup ∷ LastOverTime ∷ FirstOverTime ∷ MinOverTime ∷ MaxOverTime ∷ AvgOverTime
    ∷ SumOverTime ∷ CountOverTime ∷ DistinctOverTime ∷ PresentOverTime ∷ RangeOverTime ∷ Changes
    ∷ Resets ∷ Delta ∷ Increase ∷ Rate ∷ DerivFast ∷ Idelta ∷ Ideriv ∷ Irate ∷ Lag ∷ Lifetime
    ∷ TfirstOverTime ∷ TlastOverTime ∷ TminOverTime ∷ TmaxOverTime ∷ []

-- all aggregates
abbrev pub aggregates : List Aggregate
aggregates =
    Sum ∷ Min ∷ Max ∷ Count ∷ Avg ∷ Group ∷ Any ∷ Topk ∷ Bottomk ∷ Limitk ∷ CountValues ∷ []

-- all functions over points or labels
abbrev pub functions : List Function
functions =
    Abs ∷ Sgn ∷ Ceil ∷ Floor ∷ Round ∷ Clamp ∷ ClampMin ∷ ClampMax ∷ Scalar ∷ Vector ∷ Time ∷ Absent
    ∷ LabelSet ∷ LabelDel ∷ LabelKeep ∷ LabelCopy ∷ LabelJoin ∷ LabelReplace ∷ Union ∷ Sort
    ∷ SortDesc ∷ []

-- all of these
abbrev pub all_known : List Known
all_known = map OfWindow rollups ++ map OfGroup aggregates ++ map OfPoints functions

-- whether it has this name, without regard to ASCII case
abbrev pub has_name : Known → List ℕ → Bool
has_name known name = str_eq_ignore_ascii_case (name_of known) name

-- the first of these that has the name, without regard to ASCII case
abbrev pub first_named : List Known → List ℕ → Option Known
first_named all name = find (λ known. has_name known name) all

-- what a name is
unfoldable pub known_as : List ℕ → Option Known
known_as name = first_named all_known name
