-- What is written and what is read, for other crates' proofs too.
use Rattle.std.proofs.Common.{◌≡◌, ℕ, zero, suc, ◌-◌, ◌*◌, ◌^◌, ◌<◌, ◌≤◌, ℤ, pos, negsuc, ◌*ℤ◌, ◌+ℤ◌, neg_ℤ, unsigned_abs, List, [], ◌∷◌, ◌++◌, length, take, drop, map, slice_get, Option, Some, refl, ap, ap₂, sym, subst, ◌∙◌, arith, length-drop}
use Rattle.std.proofs.Math.Nat.{le_of_mul-le-mul_right, one-le-mul}
use Rattle.std.proofs.lemmas.Bool.{and_parts}
use Rattle.std.proofs.lemmas.Int.{ints}
use Rattle.std.proofs.lemmas.Bool.Decides.{Decides-int_eq}
use Rattle.std.proofs.lemmas.List.{take_at, drop_at, take-append-drop, length-take-le}
use Rattle.std.specs.List.{list_all}
use Rattle.std.specs.Ordering.{int_eq}
use Rattle.vm_base.specs.Form.{ten_pos}
use Rattle.vm_base.specs.Sample.{is_sample}
use Rattle.vm_base.specs.declared.stamped.Stamped.{Stamped}
use Rattle.vm_codec.specs.Coding.{chosen, spelling}
use Rattle.vm_block.specs.Block.{times_of, values_of, scaled_by, common_exponent, IsBlock}
use Rattle.vm_block.specs.Header.{IsHeader, header_bytes}
use Rattle.vm_block.specs.inner.Reading.{AreFields}
use Rattle.vm_block.specs.Written.{IsWritten}
use Rattle.vm_block.specs.declared.header.BlockHeader.{BlockHeader}
use Rattle.vm_block.proofs.Headers.{fields_again, one_header}

-- ---- what is written is read

pub header_len : (h : BlockHeader) → length (header_bytes h) ≡ 40
unfolding header_bytes
header_len h = refl

-- a header has its own bytes
pub header_of_bytes : (h other : BlockHeader) → IsHeader h → IsHeader other
    → header_bytes h ≡ header_bytes other → h ≡ other
header_of_bytes h other is also same =
    one_header (header_bytes h) h other (fields_again h is)
    (subst (λ bs. AreFields bs other) (sym same) (fields_again other also))

pub written_is_read : (h : BlockHeader) (samples : List Stamped) (bytes : List ℕ)
    → IsWritten bytes samples → IsHeader h
    → header_bytes h ≡ take 40 bytes → IsBlock h (drop 40 bytes) samples
written_is_read h samples bytes written is front =
    let its = header_bytes written.header in
    let first : take 40 bytes ≡ its = ap (take 40) written.parts
    ∙ take_at its written.body 40 (header_len written.header) in
    let rest : written.body ≡ drop 40 bytes =
    sym (ap (drop 40) written.parts
    ∙ drop_at its written.body 40 (header_len written.header)) in
    let same : written.header ≡ h =
    header_of_bytes written.header h written.block.header is (sym (front ∙ first)) in
    subst (λ body. IsBlock h body samples) rest
    (subst (λ header. IsBlock header written.body samples) same written.block)

-- ---- samples are written in one way

same_product : (a b t : ℕ) → 0 < t → a * t ≡ b * t → a ≡ b
same_product a b t some same =
    let below : a ≤ b = le_of_mul-le-mul_right {m = a} {n = b} {k = t} (omega (arith, same)) some in
    let above : b ≤ a = le_of_mul-le-mul_right {m = b} {n = a} {k = t} (omega (arith, same)) some in
    omega arith

no_sign : (p q : ℕ) → 0 < q → pos p ≡ neg_ℤ (pos q) → ⊥
no_sign p q some same = omega (arith, ints)

one_mantissa : (t : ℕ) → 0 < t → (m n : ℤ) → m *ℤ pos t ≡ n *ℤ pos t → m ≡ n
one_mantissa t some (pos a) (pos b) same =
    let product : a * t ≡ b * t = ap unsigned_abs same in
    ap pos (same_product a b t some product)
one_mantissa t some (pos a) (negsuc b) same =
    absurd (no_sign (a * t) (suc b * t) (one-le-mul {a = suc b} (omega arith) some) same)
one_mantissa t some (negsuc a) (pos b) same =
    absurd (no_sign (b * t) (suc a * t) (one-le-mul {a = suc a} (omega arith) some) (sym same))
one_mantissa t some (negsuc a) (negsuc b) same =
    let product : suc a * t ≡ suc b * t = sym (abs_neg (suc a * t)) ∙ ap unsigned_abs same
    ∙ abs_neg (suc b * t) in
    let sizes : suc a ≡ suc b = same_product (suc a) (suc b) t some product in
    ap negsuc (omega (arith, sizes))
  where
    abs_neg : (n : ℕ) → unsigned_abs (neg_ℤ (pos n)) ≡ n
    abs_neg zero = refl
    abs_neg (suc n) = refl

one_list : (e : ℤ) (ms ns : List ℤ) → map (scaled_by e) ms ≡ map (scaled_by e) ns → ms ≡ ns
one_list e [] [] same = refl
one_list e [] (n ∷ ns) same = absurd (cc)
one_list e (m ∷ ms) [] same = absurd (cc)
one_list e (m ∷ ms) (n ∷ ns) same =
    let t = 10 ^ unsigned_abs (e +ℤ pos 1000) in
    let head : m *ℤ pos t ≡ n *ℤ pos t = cc in
    let rest : map (scaled_by e) ms ≡ map (scaled_by e) ns = cc in
    ap₂ (λ x xs. x ∷ xs) (one_mantissa t (ten_pos (unsigned_abs (e +ℤ pos 1000))) m n head)
    (one_list e ms ns rest)

-- a header and a body by what they say
front_of :
    (h : BlockHeader) (body : List ℕ) (samples : List Stamped) (block : IsBlock h body samples)
    → h.times_len ≡ length (spelling h.times (times_of samples))
front_of h body samples block =
    sym (length-take-le h.times_len body (omega (arith, block.len))) ∙ ap length block.times.spelled

back_of :
    (h : BlockHeader) (body : List ℕ) (samples : List Stamped) (block : IsBlock h body samples)
    → h.values_len ≡ length (spelling h.values block.mantissas)
back_of h body samples block =
    let len : h.values_len ≡ length (drop h.times_len body) =
    omega (arith, length-drop h.times_len body, block.len) in
    len ∙ ap length block.column.spelled

body_of :
    (h : BlockHeader) (body : List ℕ) (samples : List Stamped) (block : IsBlock h body samples)
    → body ≡ spelling h.times (times_of samples) ++ spelling h.values block.mantissas
body_of h body samples block =
    sym (take-append-drop h.times_len body)
    ∙ ap₂ (λ x y. x ++ y) block.times.spelled block.column.spelled

exponent_of : (h : BlockHeader) (body : List ℕ) (samples : List Stamped) → IsBlock h body samples
    → common_exponent (values_of samples) ≡ h.exponent
exponent_of h body samples block =
    (Decides-int_eq (common_exponent (values_of samples)) h.exponent).0
    (and_parts (list_all is_sample (values_of samples))
    (int_eq (common_exponent (values_of samples)) h.exponent) block.exponent).1

pub one_writing : (samples : List Stamped) (bytes others : List ℕ) → IsWritten bytes samples
    → IsWritten others samples → bytes ≡ others
one_writing samples bytes others one two =
    one.parts ∙ ap₂ (λ h body. header_bytes h ++ body) headers bodies ∙ sym two.parts
  where
    exponent : one.header.exponent ≡ two.header.exponent
    exponent = sym (exponent_of one.header one.body samples one.block)
        ∙ exponent_of two.header two.body samples two.block

    mantissas : one.block.mantissas ≡ two.block.mantissas
    mantissas =
        one_list one.header.exponent one.block.mantissas two.block.mantissas
        (sym one.block.values ∙ two.block.values
        ∙ ap (λ e. map (scaled_by e) two.block.mantissas) (sym exponent))

    times : one.header.times ≡ two.header.times
    times = one.times ∙ sym two.times

    values : one.header.values ≡ two.header.values
    values = one.values ∙ ap chosen mantissas ∙ sym two.values

    count : one.header.count ≡ two.header.count
    count = sym one.block.times.len ∙ two.block.times.len

    one_time : (o : Option ℤ) (a b : ℕ) → o ≡ Some (pos a) → o ≡ Some (pos b) → a ≡ b
    one_time o a b is other = cc

    one_first : (o : Option ℤ) (a b : ℤ) → o ≡ Some a → o ≡ Some b → a ≡ b
    one_first o a b is other = cc

    first_time : one.header.first_time ≡ two.header.first_time
    first_time =
        one_time (slice_get (times_of samples) 0) one.header.first_time two.header.first_time
        one.block.times.begins two.block.times.begins

    last_time : one.header.last_time ≡ two.header.last_time
    last_time =
        one_time (slice_get (times_of samples) (one.header.count - 1)) one.header.last_time
        two.header.last_time one.block.last
        (ap (λ n. slice_get (times_of samples) (n - 1)) count ∙ two.block.last)

    first_m : one.header.first_m ≡ two.header.first_m
    first_m =
        one_first (slice_get one.block.mantissas 0) one.header.first_m two.header.first_m
        one.block.column.begins
        (ap (λ ms. slice_get ms 0) mantissas ∙ two.block.column.begins)

    times_len : one.header.times_len ≡ two.header.times_len
    times_len =
        front_of one.header one.body samples one.block
        ∙ ap (λ c. length (spelling c (times_of samples))) times
        ∙ sym (front_of two.header two.body samples two.block)

    values_len : one.header.values_len ≡ two.header.values_len
    values_len =
        back_of one.header one.body samples one.block
        ∙ ap₂ (λ c ms. length (spelling c ms)) values mantissas
        ∙ sym (back_of two.header two.body samples two.block)

    headers : one.header ≡ two.header
    headers = λ i. record {
      count = count i;
      times = times i;
      values = values i;
      exponent = exponent i;
      first_time = first_time i;
      last_time = last_time i;
      first_m = first_m i;
      times_len = times_len i;
      values_len = values_len i;
    }

    bodies : one.body ≡ two.body
    bodies =
        body_of one.header one.body samples one.block
        ∙ ap₂ (λ x y. x ++ y) (ap (λ c. spelling c (times_of samples)) times)
        (ap₂ (λ c ms. spelling c ms) values mantissas)
        ∙ sym (body_of two.header two.body samples two.block)
