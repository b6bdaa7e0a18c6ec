-- What patterns mean: regular expressions in the syntax of Rust's `regex`, held against whole
-- values.
use Rattle.std.specs.Prelude.{ℕ, ◌≤◌, Bool, List, [], ◌∷◌, ◌++◌, map, Option, Some, None, is_some, IsSomeAnd, option_map, slice_range, codes}
use Rattle.std.specs.Str.{chars}
use Rattle.regex.specs.Patterns.{Re, Match, find_str, span, default_config}
use Rattle.regex.specs.Writes.{group_of}
use Rattle.regex_syntax.specs.Brackets.{Nested}
use Rattle.regex_syntax.specs.Grammar.{Names, read}

-- the text is an expression that isn't nested too deeply
abbrev pub IsExpression : List ℕ → Type 0
IsExpression text =
    IsSomeAnd (read default_config (chars text))
    (λ (re, names). re.depth ≤ default_config.nest_limit)

-- the expression that matches a value where the pattern matches all of it
abbrev pub anchored : List ℕ → List ℕ
anchored text = codes "\\A(?:" ++ (text ++ codes ")\\z")

-- The text is a pattern: an expression that stays one between anchors, which `a)(b` doesn't.
abbrev pub IsPattern : List ℕ → Type 0
IsPattern text = IsExpression text × IsExpression (anchored text)

-- what an expression finds in a value, nothing where there is none
abbrev pub found_by : Option (Nested Re × Names) → List ℕ → Option Match
found_by None value = None
found_by (Some (re, names)) value = find_str re.value value 0

-- the match of a pattern with a whole value
abbrev pub whole_match : List ℕ → List ℕ → Option Match
whole_match text value = found_by (read default_config (chars (anchored text))) value

-- whether a pattern matches a whole value
abbrev pub is_whole_match : List ℕ → List ℕ → Bool
is_whole_match text value = is_some (whole_match text value)

-- what stands in a span, nothing where there is none
abbrev pub in_span : List ℕ → Option (ℕ × ℕ) → List ℕ
in_span value None = []
in_span value (Some (first, end)) = slice_range value first end

-- The texts of a match and of its groups 1 to 9, empty for a group that takes no part.
abbrev pub group_texts : List ℕ → Match → List (List ℕ)
group_texts value found =
    in_span value (Some (span found))
    ∷ map (λ n. in_span value (group_of found n)) (1 ∷ 2 ∷ 3 ∷ 4 ∷ 5 ∷ 6 ∷ 7 ∷ 8 ∷ 9 ∷ [])

-- those of the match of a pattern with a whole value
abbrev pub whole_groups : List ℕ → List ℕ → Option (List (List ℕ))
whole_groups text value = option_map (group_texts value) (whole_match text value)
