-- Label values in quotes. (Prometheus text format 0.0.4, "Line format")
use Rattle.std.specs.Prelude.{◌≡◌, ℕ, ◌==◌, ◌&&◌, ◌||◌, not, Bool, true, false, List, [], ◌∷◌, ◌++◌, if◌then◌else◌}

-- whether a text holds a quote only after a backslash, and no backslash alone at its end; `escaped`
-- says whether a backslash stands before it
abbrev pub is_bare : Bool → List ℕ → Bool
is_bare escaped [] = not escaped
is_bare true (byte ∷ more) = is_bare false more
is_bare false (byte ∷ more) = not (byte == 34) && is_bare (byte == 92) more

-- the same of a whole text
abbrev pub IsBare : List ℕ → Type 0
IsBare text = is_bare false text ≡ true

-- what a backslash and this byte stand for: a line feed, a quote, a backslash, or else themselves
abbrev pub escape : ℕ → List ℕ
escape byte =
    if byte == 110 then 10 ∷ []
    else (if byte == 34 || byte == 92 then byte ∷ [] else 92 ∷ byte ∷ [])

-- what a text stands for; `escaped` says whether a backslash stands before it
abbrev pub decoded : Bool → List ℕ → List ℕ
decoded escaped [] = if escaped then 92 ∷ [] else []
decoded true (byte ∷ more) = escape byte ++ decoded false more
decoded false (byte ∷ more) = if byte == 92 then decoded true more else byte ∷ decoded false more

-- what a whole text stands for
abbrev pub unescaped : List ℕ → List ℕ
unescaped = decoded false
