-- Names of metrics and labels. (Prometheus data model, "Metric names and labels")
use Rattle.std.specs.Prelude.{ℕ, ◌==◌, ◌&&◌, ◌||◌, Bool, List, slice_index, if◌then◌else◌}
use Rattle.std.specs.List.{list_all, prefix_len}
use Rattle.std.specs.Char.{is_ascii_digit, is_ascii_alphabetic}

-- a letter, `_` or `:`
abbrev pub begins_name : ℕ → Bool
begins_name byte = is_ascii_alphabetic byte || byte == 95 || byte == 58

-- one of these or a digit
abbrev pub is_name_byte : ℕ → Bool
is_name_byte byte = begins_name byte || is_ascii_digit byte

-- whether a text is a name, `[A-Za-z_:][A-Za-z0-9_:]*`
abbrev pub is_name : List ℕ → Bool
is_name text = begins_name (slice_index text 0) && list_all is_name_byte text

-- how many bytes the longest name at the front has, 0 where none begins there
abbrev pub name_len : List ℕ → ℕ
name_len text = if begins_name (slice_index text 0) then prefix_len is_name_byte text else 0
