-- Lines that are texts, and those that aren't.
use Rattle.std.proofs.Common.{◌≡◌, ℕ, true, false, List, Option, Some, None, ap, refl}
use Rattle.std.specs.Prelude.{if◌then◌else◌}
use Rattle.std.specs.Str.{IsUtf8, is_utf8}
use Rattle.std.proofs.lemmas.Str.{IsUtf8-from_is_utf8, is_utf8-from_IsUtf8}

-- the bytes, where they are a text
abbrev pub text_in : List ℕ → Option (List ℕ)
text_in bytes = if is_utf8 bytes then Some bytes else None

pub text_in-text : (text bytes : List ℕ) → text ≡ bytes → IsUtf8 bytes → Some text ≡ text_in bytes
text_in-text text bytes same utf8 = rw (is_utf8-from_IsUtf8 bytes utf8) (ap Some same)

pub text_in-none : (bytes : List ℕ) → (IsUtf8 bytes → ⊥) → None ≡ text_in bytes
text_in-none bytes broken =
    elim (is_utf8 bytes) as (λ b. is_utf8 bytes ≡ b → None ≡ (if b then Some bytes else None)) [
      | true ↦ λ is. absurd (broken (IsUtf8-from_is_utf8 bytes is))
      | false ↦ λ is. refl
    ] refl
