-- The body of a reply. (VictoriaMetrics, "Prometheus querying API", `/api/v1/query`)
use Rattle.std.specs.Prelude.{ℕ, ◌*◌, ◌^◌, ℤ, pos, List, ◌∷◌, ◌++◌, map, codes}
use Rattle.std.specs.List.{join_with_byte}
use Rattle.vm_decimal.specs.NumberText.{number_text}
use Rattle.vm_labels.specs.Text.{label_json}
use Rattle.vm_machine.specs.declared.question.Valued.{Valued}

-- a time in seconds
abbrev pub seconds : ℕ → List ℕ
seconds ms = number_text (pos (ms * 10 ^ 997))

-- a value at a time
abbrev pub point : ℕ → ℤ → List ℕ
point at value = codes "[" ++ seconds at ++ codes ",\"" ++ number_text value ++ codes "\"]"

-- a series with its value at a time
abbrev pub series : ℕ → Valued → List ℕ
series at valued =
    codes "{\"metric\":" ++ label_json valued.labels ++ codes ",\"value\":" ++ point at valued.value
    ++ codes "}"

-- a series after another one
abbrev pub next_series : ℕ → Valued → List ℕ
next_series at valued = 44 ∷ series at valued

-- the reply to an instant query, with a line feed after it
abbrev pub reply : ℕ → List Valued → List ℕ
reply at values =
    codes "{\"status\":\"success\",\"data\":{\"resultType\":\"vector\",\"result\":["
    ++ join_with_byte 44 (map (series at) values) ++ codes "]}}\n"
