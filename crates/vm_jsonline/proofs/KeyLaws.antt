-- The values of a key.
use Rattle.std.proofs.Common.{◌≡◌, ℕ, zero, suc, ◌+◌, ◌<◌, Bool, true, false, cond, List, [], ◌∷◌, ◌++◌, length, map, drop, Option, Some, None, refl, ap, sym, ◌∙◌, arith}
use Rattle.std.specs.Prelude.{is_some, option_map}
use Rattle.std.proofs.Math.ListN.{get_or}
use Rattle.vm_jsonline.specs.Parts.{Part}
use Rattle.vm_jsonline.specs.Reading.{parts_at, only_part}
use Rattle.vm_jsonline.specs.Series.{is_text, once}
use Rattle.vm_jsonline.specs.Strings.{string_reading}

-- the items of an option
abbrev pub list_of : {A : Type 0} → Option A → List A
list_of None = []
list_of (Some x) = x ∷ []

module _ {P : Type 0} (view : P → Part) (name : List ℕ) where
  next_part : (parts : List P) (i : ℕ) (d : P) → i < length parts
      → drop i (map view parts) ≡ view (get_or parts i d) ∷ drop (i + 1) (map view parts)
  next_part [] i d here = absurd (omega arith)
  next_part (p ∷ parts) zero d here = refl
  next_part (p ∷ parts) (suc i) d here = let same : suc i + 1 ≡ suc (i + 1) =
      omega arith in rw same (next_part parts i d (omega arith))

  -- one part further
  at_part : (parts : List P) (i : ℕ) (d : P) (b : Bool) → i < length parts
      → is_text name (string_reading (view (get_or parts i d)).key) ≡ b
      → parts_at name (drop i (map view parts))
      ≡ cond b ((view (get_or parts i d)).value ∷ parts_at name (drop (i + 1) (map view parts)))
      (parts_at name (drop (i + 1) (map view parts)))
  at_part parts i d b here is =
      ap (parts_at name) (next_part parts i d here)
      ∙ ap (λ t.
      cond t ((view (get_or parts i d)).value ∷ parts_at name (drop (i + 1) (map view parts)))
      (parts_at name (drop (i + 1) (map view parts)))) is

  pub key_found : (parts : List P) (i : ℕ) (d : P) (found new : Option (List ℕ)) → i < length parts
      → is_text name (string_reading (view (get_or parts i d)).key) ≡ true
      → is_some found ≡ false → new ≡ Some (view (get_or parts i d)).value
      → parts_at name (map view parts) ≡ list_of found ++ parts_at name (drop i (map view parts))
      → parts_at name (map view parts) ≡ list_of new
      ++ parts_at name (drop (i + 1) (map view parts))
  key_found parts i d None new here is none now so_far =
      so_far ∙ at_part parts i d true here is
      ∙ ap (λ o. list_of o ++ parts_at name (drop (i + 1) (map view parts))) (sym now)
  key_found parts i d (Some v) new here is none now so_far = absurd (cc none)

  pub key_not : (parts : List P) (i : ℕ) (d : P) (found new : Option (List ℕ)) → i < length parts
      → is_text name (string_reading (view (get_or parts i d)).key) ≡ false
      → new ≡ found → parts_at name (map view parts) ≡ list_of found
      ++ parts_at name (drop i (map view parts))
      → parts_at name (map view parts) ≡ list_of new
      ++ parts_at name (drop (i + 1) (map view parts))
  key_not parts i d found new here is now so_far =
      so_far ∙ ap (λ l. list_of found ++ l) (at_part parts i d false here is)
      ∙ ap (λ o. list_of o ++ parts_at name (drop (i + 1) (map view parts))) (sym now)

  pub key_twice : (parts : List P) (i : ℕ) (d : P) (found : Option (List ℕ)) → i < length parts
      → is_text name (string_reading (view (get_or parts i d)).key) ≡ true
      → is_some found ≡ true → parts_at name (map view parts) ≡ list_of found
      ++ parts_at name (drop i (map view parts))
      → only_part name (map view parts) ≡ None
  unfolding only_part
  key_twice parts i d None here is some so_far = absurd (cc some)
  key_twice parts i d (Some v) here is some so_far =
      ap once (so_far ∙ ap (λ l. v ∷ l) (at_part parts i d true here is))

pub some_view : {A B : Type 0} (f : A → B) (o : Option A) → is_some (option_map f o) ≡ is_some o
some_view f None = refl
some_view f (Some x) = refl
