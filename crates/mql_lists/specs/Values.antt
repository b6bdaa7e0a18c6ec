-- What a string of a query stands for. (MetricsQL, "string literals")
use Rattle.std.specs.Prelude.{ℕ, ◌-◌, ◌==◌, Bool, true, false, List, [], ◌∷◌, length, take, drop, if◌then◌else◌}

-- what stands for a byte after a backslash: `n` for a line feed, `t` for a tab, another for itself
abbrev pub escaped : ℕ → ℕ
escaped byte = if byte == 110 then 10 else (if byte == 116 then 9 else byte)

-- a text without its backslashes; `behind` says whether one stands before it
abbrev pub unescaped : Bool → List ℕ → List ℕ
unescaped behind [] = []
unescaped true (byte ∷ more) = escaped byte ∷ unescaped false more
unescaped false (byte ∷ more) =
    if byte == 92 then unescaped true more else byte ∷ unescaped false more

-- what stands between the quotes
abbrev pub between : List ℕ → List ℕ
between text = take (length text - 2) (drop 1 text)

-- the value of a string, which stands in quotes
abbrev pub value_of : List ℕ → List ℕ
value_of text = unescaped false (between text)
