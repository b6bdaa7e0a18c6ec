-- How a series is written.
use Rattle.std.specs.Prelude.{ℕ, ◌==◌, List, [], ◌∷◌, ◌++◌, map, codes, if◌then◌else◌}
use Rattle.std.specs.Fmt.{decimal}
use Rattle.std.specs.List.{join_with_byte}
use Rattle.vm_base.specs.declared.stamped.Stamped.{Stamped}
use Rattle.vm_decimal.specs.NumberText.{number_text}
use Rattle.vm_labels.specs.Text.{label_json}
use Rattle.vm_labels.specs.declared.pair.Pair.{Pair}

-- the text of a sample's value
abbrev pub value_text : Stamped → List ℕ
value_text s = number_text s.value

-- the digits of a sample's time
abbrev pub time_text : Stamped → List ℕ
time_text s = decimal s.time

-- the comma before an item, which the first one lacks
abbrev pub comma_before : ℕ → List ℕ
comma_before index = if index == 0 then [] else 44 ∷ []

-- the items of an array, without its brackets
abbrev pub values_text : List Stamped → List ℕ
values_text samples = join_with_byte 44 (map value_text samples)

abbrev pub times_text : List Stamped → List ℕ
times_text samples = join_with_byte 44 (map time_text samples)

-- `{"metric":{..},"values":[..],"timestamps":[..]}`, without spaces
abbrev pub series_text : List Pair → List Stamped → List ℕ
series_text labels samples =
    codes "{\"metric\":" ++ label_json labels ++ codes ",\"values\":[" ++ values_text samples
    ++ codes "],\"timestamps\":[" ++ times_text samples ++ codes "]}"
