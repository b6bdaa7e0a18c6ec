-- Texts without a backslash, and texts of UTF-8.
use Rattle.std.proofs.Common.{◌≡◌, ℕ, suc, ◌<◌, Bool, true, false, List, [], ◌∷◌, length, Some, None, refl, ap, arith}
use Rattle.std.specs.Prelude.{◌==◌, slice_index, IsUtf8, option_map, cond}
use Rattle.std.specs.Str.{is_utf8}
use Rattle.std.proofs.lemmas.Str.{IsUtf8-from_is_utf8, is_utf8-from_IsUtf8}
use Rattle.vm_json.specs.Grammar.{byte}
use Rattle.vm_jsonline.specs.Strings.{raw_text, pieces, text_from, utf8_only}
use Rattle.vm_jsonline.specs.declared.strings.Pending.TheVariants.{Nothing, Slash}

abbrev pub NoSlash : List ℕ → Type 0
NoSlash text = (k : ℕ) → k < length text → (slice_index text k == 92) ≡ true → ⊥

pub bare : (text : List ℕ) → NoSlash text → raw_text text ≡ Some text
bare [] none = refl
bare (b ∷ more) none = go (b == 92) refl (bare more (λ k below is. none (suc k) (omega arith) is))
  where
    go : (t : Bool) → (b == 92) ≡ t → raw_text more ≡ Some more
        → text_from None (cond t (pieces Slash more) (byte b ∷ pieces Nothing more))
        ≡ Some (b ∷ more)
    go true is rest = absurd (none 0 (omega arith) is)
    go false is rest = ap (option_map (λ t. b ∷ t)) rest

utf8_not : (text : List ℕ) → (IsUtf8 text → ⊥) → is_utf8 text ≡ false
utf8_not text not = go (is_utf8 text) refl
  where
    go : (t : Bool) → is_utf8 text ≡ t → is_utf8 text ≡ false
    go true is = absurd (not (IsUtf8-from_is_utf8 text is))
    go false is = is

pub utf8_some : (text : List ℕ) → IsUtf8 text → utf8_only text ≡ Some text
utf8_some text is = rw (is_utf8-from_IsUtf8 text is) refl

pub utf8_none : (text : List ℕ) → (IsUtf8 text → ⊥) → utf8_only text ≡ None
utf8_none text not = rw (utf8_not text not) refl
