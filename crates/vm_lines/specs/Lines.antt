-- The lines of an input. (Prometheus text format 0.0.4, "Line format")
use Rattle.std.specs.Prelude.{ℕ, ◌==◌, ◌-◌, nat_lt, Bool, List, [], ◌∷◌, length, take, map, slice_index, if◌then◌else◌}
use Rattle.vm_base.specs.declared.limits.TheConstants.{MAX_IMPORT_LINE}

-- a byte put before the first piece
abbrev pub onto_first : ℕ → List (List ℕ) → List (List ℕ)
onto_first byte [] = (byte ∷ []) ∷ []
onto_first byte (piece ∷ more) = (byte ∷ piece) ∷ more

-- the pieces between line feeds; what stands behind the last one is a piece where it isn't empty
abbrev pub split : List ℕ → List (List ℕ)
split [] = []
split (byte ∷ more) = if byte == 10 then [] ∷ split more else onto_first byte (split more)

-- a piece without the carriage return at its end, if it has one
abbrev pub without_return : List ℕ → List ℕ
without_return piece =
    if slice_index piece (length piece - 1) == 13 then take (length piece - 1) piece else piece

-- the lines: the pieces, each without its one carriage return
abbrev pub lines : List ℕ → List (List ℕ)
lines input = map without_return (split input)

-- whether a line has more bytes than a line may have
abbrev pub is_too_long : List ℕ → Bool
is_too_long line = nat_lt MAX_IMPORT_LINE (length line)
