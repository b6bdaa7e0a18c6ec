-- What a line comes to, once its parts are known.
use Rattle.std.specs.Prelude.{ℕ, ◌-◌, ◌==◌, ◌^◌, nat_lt, List, length, Option, Some, None, Result, Ok, Err, if◌then◌else◌}
use Rattle.std.specs.Str.Parse.{digits_value}
use Rattle.vm_decimal.specs.declared.sample_text.NumFault.{NumFault}
use Rattle.vm_decimal.specs.declared.sample_text.SampleText.{SampleText}
use Rattle.vm_decimal.specs.declared.sample_text.SampleText.TheVariants.{Value}
use Rattle.vm_decimal.specs.declared.sample_text.SampleText.TheVariants as values
use Rattle.vm_labels.specs.Labels.{built, limit_of}
use Rattle.vm_labels.specs.declared.fault.LabelFault.{LabelFault}
use Rattle.vm_labels.specs.declared.fault.LimitFault.{LimitFault}
use Rattle.vm_labels.specs.declared.pair.Pair.{Pair}
use Rattle.vm_promtext.specs.Grammar.{Written}
use Rattle.vm_promtext.specs.declared.line.Line.{Line}
use Rattle.vm_promtext.specs.declared.line.Line.TheVariants.{Row, NoNumber, Skipped}

-- the time that digits write, `now` where there are none, and none above 2^48 - 1
abbrev pub time_of : ℕ → List ℕ → Option ℕ
time_of now digits =
    if length digits == 0 then Some now
    else (if nat_lt (digits_value 10 digits) (2 ^ 48) then Some (digits_value 10 digits) else None)

-- the label set of these pairs, none where they make none or one that breaks a limit
abbrev pub within : List Pair → Option LimitFault → Option (List Pair)
within labels None = Some labels
within labels (Some fault) = None

-- the same of pairs that make a label set, or don't
abbrev pub kept : Result (List Pair) LabelFault → Option (List Pair)
kept (Ok labels) = within labels (limit_of labels)
kept (Err fault) = None

-- a line whose time and value are known
abbrev pub with_labels : SampleText → ℕ → Option (List Pair) → Line
with_labels value time None = Skipped 0
with_labels values.NoNumber time (Some labels) = NoNumber
with_labels (Value number) time (Some labels) =
    Row (record { labels = labels; time = time; value = number })

-- a line whose value is known, and whose time begins at a place
abbrev pub with_time : SampleText → ℕ → Option ℕ → Option (List Pair) → Line
with_time value at None labels = Skipped at
with_time value at (Some time) labels = with_labels value time labels

-- a line whose value, read so, begins at one place, and its time at another
abbrev pub with_value : Result SampleText NumFault → ℕ → ℕ → Option ℕ → Option (List Pair)
    → Line
with_value (Err fault) value_at time_at time labels = Skipped value_at
with_value (Ok value) value_at time_at time labels = with_time value time_at time labels

-- What a line comes to that is read at the time `now` and writes these parts: skipped at its
-- value's first byte where that is out of range, else at its time's where that is, else at 0 where
-- its labels make no label set or one that breaks a limit, and else its row. `said` is what the
-- value's text says.
abbrev pub outcome : ℕ → List ℕ → Written → Result SampleText NumFault → Line
outcome now line written said =
    with_value said (length line - written.value_left)
    (length line - written.time_left) (time_of now written.digits) (kept (built written.pairs))
