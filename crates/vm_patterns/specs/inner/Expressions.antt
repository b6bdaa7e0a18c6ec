-- Expressions of the library `regex`, as patterns in memory hold them: words of inner contracts.
use Rattle.std.specs.Prelude.{◌≡◌, ℕ, ◌<◌, List, map, All, is_some, option_map}
use Rattle.regex.specs.Patterns.{default_config, find_str}
use Rattle.regex.specs.Strings.{regex_pattern, regex_source, regex_config, IsReadFromSource, captures_haystack, captures_span}
use Rattle.regex.specs.declared.string.captures.Captures.{Captures}
use Rattle.regex.specs.declared.string.regex.Regex.{Regex}
use Rattle.vm_patterns.specs.Patterns.{in_span, group_texts, is_whole_match, whole_groups}

-- the expression is the one that the text is
pub record IsReadFrom (regex : Regex) (text : List ℕ) : Type 0 where
  pub source : regex_source regex ≡ text
  pub config : regex_config regex ≡ default_config
  pub read : IsReadFromSource regex

-- the expression finds in whole values what the pattern means
abbrev pub IsMeant : Regex → List ℕ → Type 0
IsMeant regex text =
    ((value : List ℕ) → All (λ byte. byte < 256) value
    → is_some (find_str (regex_pattern regex) value 0) ≡ is_whole_match text value)
    × ((value : List ℕ) → All (λ byte. byte < 256) value →
    option_map (group_texts value) (find_str (regex_pattern regex) value 0)
    ≡ whole_groups text value)

-- the texts of these groups
abbrev pub texts_of : Captures → List ℕ → List (List ℕ)
texts_of captures groups =
    map (λ n. in_span (captures_haystack captures) (captures_span captures n)) groups
