-- How a label set is written for people and as JSON.
use Rattle.std.specs.Prelude.{ℕ, ◌==◌, List, [], ◌∷◌, ◌++◌, map, flat_map, codes, if◌then◌else◌}
use Rattle.std.specs.List.{join_with_byte}
use Rattle.json.specs.Print.{quoted}
use Rattle.json.specs.Token.{Token, key, string, begin_object, end_object}
use Rattle.vm_labels.specs.declared.pair.Pair.{Pair}

-- a byte of a value: `\\`, `\"` and `\n` stand for a backslash, a quote and a line feed
abbrev pub escaped_byte : ℕ → List ℕ
escaped_byte b = if b == 92 then codes "\\\\" else if b == 34 then codes "\\\"" else if b == 10
    then codes "\\n" else b ∷ []

-- `a="b"`. (Prometheus text format 0.0.4, "Line format")
abbrev pub pair_text : Pair → List ℕ
pair_text p = p.name ++ codes "=\"" ++ flat_map escaped_byte p.value ++ codes "\""

-- the comma before a pair, which the first one lacks
abbrev pub comma_before : ℕ → List ℕ
comma_before index = if index == 0 then [] else 44 ∷ []

-- `{a="b",c="d"}`
abbrev pub label_text : List Pair → List ℕ
label_text pairs = codes "{" ++ join_with_byte 44 (map pair_text pairs) ++ codes "}"

-- `"a":"b"`, strings as `serde_json` writes them. (RFC 8259, section 4)
abbrev pub pair_json : Pair → List ℕ
pair_json p = quoted p.name ++ codes ":" ++ quoted p.value

-- the tokens of a pair and of the object
abbrev pub pair_tokens : Pair → List Token
pair_tokens p = key p.name ∷ string p.value ∷ []

abbrev pub tokens_of : List Pair → List Token
tokens_of pairs = begin_object ∷ (flat_map pair_tokens pairs ++ end_object ∷ [])

-- `{"a":"b","c":"d"}`
abbrev pub label_json : List Pair → List ℕ
label_json pairs = codes "{" ++ join_with_byte 44 (map pair_json pairs) ++ codes "}"
