-- Writing a part piece by piece: what stands in its file.
use Rattle.std.proofs.Common.{◌≡◌, ℕ, ◌+◌, ◌-◌, ◌≤◌, min, List, [], ◌++◌, length, take, drop, sym, ap, ◌∙◌, subst, arith}
use Rattle.std.proofs.Math.Seq.{take-add}
use Rattle.std.proofs.lemmas.List.{append-nil, drop_all, length-drop, length-take-le, take-take}
use Rattle.vm_outside.specs.Disk.{Holds, Image}
use Rattle.vm_part.specs.Files.{Begun, HasWritten, next_len}

-- a piece fits in, and the next one with it
next_fits : (at n m len : ℕ) → n ≡ min m (len - at) → at ≤ len → (at + n ≤ len) × (n ≤ len - at)
next_fits at n m len is within = (grind arith, grind arith)

-- a piece more stands in the file, and nothing behind it
pub written_more : (begun : Begun) (n : ℕ) (image : List ℕ) (files after : Image)
    → HasWritten begun files → begun.done ≤ length begun.part.bytes
    → n ≡ next_len begun → image ≡ begun.part.bytes
    → Holds begun.done (take (begun.done + n - begun.done) (drop begun.done image))
    (files begun.file) (after begun.file)
    → HasWritten (record { file = begun.file; part = begun.part; done = begun.done + n }) after
written_more begun n image files after has within is_next is_image holds =
    record { within = short; written = front }
  where
    bytes : List ℕ
    bytes = begun.part.bytes

    at : ℕ
    at = begun.done

    old : List ℕ
    old = files begun.file

    piece : List ℕ
    piece = take n (drop at bytes)

    as_piece : take (at + n - at) (drop at image) ≡ piece
    as_piece = ap (λ xs. take (at + n - at) (drop at xs)) is_image
        ∙ ap (λ m. take m (drop at bytes)) (grind arith)

    fits : (at + n ≤ length bytes) × (n ≤ length bytes - at)
    fits = next_fits at n 163880 (length bytes) is_next within

    len-piece : length piece ≡ n
    len-piece =
        length-take-le n (drop at bytes) (subst (λ m. n ≤ m) (sym (length-drop at bytes)) fits.1)

    none_behind : drop (at + length piece) old ≡ []
    none_behind =
        drop_all (at + length piece) old
        (subst (λ m. length old ≤ at + m) (is_next' ∙ sym len-piece) has.within)
      where
        is_next' : next_len begun ≡ n
        is_next' = sym is_next

    is : after begun.file ≡ take (at + n) bytes
    is = subst (λ xs. Holds at xs old (after begun.file)) as_piece holds
        ∙ ap (λ rest. (take at old ++ piece) ++ rest) none_behind
        ∙ append-nil (take at old ++ piece) ∙ ap (λ part. part ++ piece) has.written
        ∙ sym (take-add at n bytes)

    len : length (after begun.file) ≡ at + n
    len = ap length is ∙ length-take-le (at + n) bytes fits.0

    short : length (after begun.file) ≤ at + n + min 163880 (length bytes - (at + n))
    short = let e = len in grind arith

    front : take (at + n) (after begun.file) ≡ take (at + n) bytes
    front = ap (take (at + n)) is ∙ take-take (at + n) (at + n) bytes (grind arith)
