-- Each field after those before it.
use Rattle.std.proofs.Common.{◌∷◌, [], refl, sym, ap, ap₂, ◌∙◌, w16, w32, w64, arith, rules}
use Rattle.std.proofs.lemmas.Int.{to_z-of_z}
use Rattle.std.proofs.lemmas.List.{take_all}
use Rattle.std.specs.Int.{to_be_bytes, cast_unsigned}
use Rattle.vm_codec.specs.Coding.{coding_number}
use Rattle.vm_block.specs.Header.{header_bytes}
use Rattle.vm_block.proofs.Headers.{front_put}
use Rattle.vm_block.proofs.header.write_header.Goals as goal

pub returns : goal.returns
unfolding header_bytes
returns c =
    let h = c.args.header.now in
    let f0 =
    front_put c.args.into.now c.put.new.into 0 2 [] (to_be_bytes w16 h.count) _ c.put.ensures
    c.to_be_bytes.ensures refl refl in
    let f1 =
    front_put c.put.new.into c.put-2.new.into 2 4
    _ (coding_number h.times ∷ coding_number h.values ∷ []) _ c.put-2.ensures
    (ap₂ (λ m n. m ∷ n ∷ []) c.number.ensures c.number-2.ensures) refl f0 in
    let f2 =
    front_put c.put-2.new.into c.put-3.new.into 4 6
    _ (to_be_bytes w16 (cast_unsigned w16 h.exponent)) _ c.put-3.ensures
    (c.to_be_bytes-2.ensures
    ∙ ap (λ z. to_be_bytes w16 (cast_unsigned w16 z)) (to_z-of_z w16 h.exponent (search rules)))
    refl f1 in
    let f3 =
    front_put c.put-3.new.into c.put-4.new.into 6 8 _ (0 ∷ 0 ∷ []) _ c.put-4.ensures refl refl
    f2 in
    let f4 =
    front_put c.put-4.new.into c.put-5.new.into 8 16 _ (to_be_bytes w64 h.first_time)
    _ c.put-5.ensures c.to_be_bytes-3.ensures refl f3 in
    let f5 =
    front_put c.put-5.new.into c.put-6.new.into 16 24 _ (to_be_bytes w64 h.last_time)
    _ c.put-6.ensures c.to_be_bytes-4.ensures refl f4 in
    let f6 =
    front_put c.put-6.new.into c.put-7.new.into 24 32
    _ (to_be_bytes w64 (cast_unsigned w64 h.first_m)) _ c.put-7.ensures
    (c.to_be_bytes-5.ensures
    ∙ ap (λ z. to_be_bytes w64 (cast_unsigned w64 z)) (to_z-of_z w64 h.first_m (search rules)))
    refl f5 in
    let f7 =
    front_put c.put-7.new.into c.put-8.new.into 32 36 _ (to_be_bytes w32 h.times_len)
    _ c.put-8.ensures c.to_be_bytes-6.ensures refl f6 in
    let f8 =
    front_put c.put-8.new.into c.put-9.new.into 36 40 _ (to_be_bytes w32 h.values_len)
    _ c.put-9.ensures c.to_be_bytes-7.ensures refl f7 in
    sym (take_all 40 c.put-9.new.into (omega (arith, c.put-9.array_long))) ∙ f8
