-- UTF-8 byte by byte. (Unicode 15.0, table 3-7)
use Rattle.std.specs.Prelude.{ℕ, ◌-◌, ◌==◌, nat_lt, suc, List, [], ◌∷◌, Option, Some, None, if◌then◌else◌}
use Rattle.std.specs.Int.{is_in_range}
use Rattle.std.specs.Option.{option_map_or}
use Rattle.std.specs.Str.{continuation_len}
use Rattle.std.specs.Str.Lossy.{second_byte_min, second_byte_max}
use Rattle.vm_promtext.specs.declared.utf8.Wanted.{Wanted}

-- nothing is wanted to end a character
abbrev pub nothing : Wanted
nothing = record { count = 0; least = 0x80; greatest = 0xBF }

-- what a character's first byte wants after it, none where no character begins with it
abbrev pub behind_first : ℕ → Option Wanted
behind_first byte =
    if nat_lt byte 0x80 then Some nothing
    else (if is_in_range 0xC2 0xF4 byte
    then Some (record {
      count = continuation_len byte;
      least = second_byte_min byte;
      greatest = second_byte_max byte;
    })
    else None)

-- what is wanted after a byte, none where the byte can't stand here
abbrev pub behind_byte : Wanted → ℕ → Option Wanted
behind_byte wanted byte =
    if wanted.count == 0 then behind_first byte
    else (if is_in_range wanted.least wanted.greatest byte
    then Some (record { count = wanted.count - 1; least = 0x80; greatest = 0xBF })
    else None)

-- how many bytes of a text can stand one after the other
abbrev pub readable : Wanted → List ℕ → ℕ
readable wanted [] = 0
readable wanted (byte ∷ more) =
    option_map_or (λ next. suc (readable next more)) (behind_byte wanted byte) 0
