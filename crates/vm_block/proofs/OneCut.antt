-- Samples are cut in one way.
use Rattle.std.proofs.Common.{◌≡◌, ◌==◌, ◌↔◌, nat_lt, nat_le, if◌then◌else◌, ℕ, ◌+◌, ◌^◌, ◌<◌, ◌≤◌, Bool, true, false, ℤ, pos, unsigned_abs, List, [], ◌∷◌, ◌++◌, length, take, drop, Option, Some, None, refl, ap, ap₂, sym, subst, ◌∙◌, inl, inr, arith, append_assoc, length-append, length-drop, ⊎_elim}
use Rattle.std.proofs.Math.Nat.{pow-le-pow_right}
use Rattle.std.proofs.lemmas.Bool.{and_from, and_parts, cases_Bool, cases_eq, cases_order}
use Rattle.std.proofs.lemmas.Bool.Decides.{nat_tests, Decides-int_eq}
use Rattle.std.proofs.lemmas.List.{map-append, take-append-drop, take-append-le, take_at, drop_at, take_all}
use Rattle.std.specs.List.{AllByRecursion}
use Rattle.std.specs.Option.{unwrap_or}
use Rattle.std.specs.Ordering.{int_eq}
use Rattle.vm_base.specs.Form.{ten_pos}
use Rattle.vm_base.specs.Number.{form_of}
use Rattle.vm_base.specs.declared.stamped.Stamped.{Stamped}
use Rattle.vm_block.specs.Block.{own_shift, lesser, least_shift, common_shift, values_of}
use Rattle.vm_block.specs.Cut.{share_exponent, fit_one_block, joined, AreFull, IsCut}
use Rattle.vm_block.specs.inner.Reading.{greatest_size}
use Rattle.vm_block.proofs.Exponents.{least-append, greatest-append, share_by_greatest}

-- ---- the front of what fits fits

some_lesser : (n : ℕ) (rest : Option ℕ) → lesser (Some n) rest ≡ None → ⊥
some_lesser n None is = cc
some_lesser n (Some m) is = cc

none_zero : (values : List ℤ) → least_shift values ≡ None → greatest_size values ≡ 0
none_zero [] none = refl
none_zero (z ∷ values) none =
    elim (cases_Bool (int_eq z (pos 0))) [
      | inl nought ↦
          let abs : unsigned_abs z ≡ 0 = ap unsigned_abs ((Decides-int_eq z (pos 0)).0 nought) in
          let own : own_shift z ≡ None =
          ap (λ b. if b then None else Some (form_of z).shift) nought in
          let rest = none_zero values (ap (λ o. lesser o (least_shift values)) (sym own) ∙ none) in
          omega (arith, abs, rest)
      | inr other ↦
          let own : own_shift z ≡ Some (form_of z).shift =
          ap (λ b. if b then None else Some (form_of z).shift) other in
          absurd (some_lesser (form_of z).shift (least_shift values)
          (ap (λ o. lesser o (least_shift values)) (sym own) ∙ none))
    ]

lesser_below : (n : ℕ) (rest : Option ℕ) → unwrap_or (lesser (Some n) rest) 1000 ≤ n
lesser_below n None = omega arith
lesser_below n (Some m) = omega arith

is_below : (x b : ℕ) → x < b → nat_lt x b ≡ true
is_below x b h = grind (arith, nat_tests)

below_from : (x b : ℕ) → nat_lt x b ≡ true → x < b
below_from x b h = grind (arith, nat_tests)

share_front : (values others : List ℤ) → share_exponent (values ++ others) ≡ true
    → share_exponent values ≡ true
share_front values others share = by_least (least_shift values) refl
  where
    by_least : (least : Option ℕ) → least_shift values ≡ least → share_exponent values ≡ true
    by_least None is =
        share_by_greatest values
        ∙ is_below (greatest_size values) (10 ^ (18 + common_shift values))
        (subst (λ n. n < 10 ^ (18 + common_shift values)) (sym (none_zero values is))
        (ten_pos (18 + common_shift values)))
    by_least (Some n) is =
        let own : common_shift values ≡ n = ap (λ o. unwrap_or o 1000) is in
        let both : common_shift (values ++ others) ≤ n =
        subst (λ o. unwrap_or o 1000 ≤ n)
        (sym (least-append values others ∙ ap (λ o. lesser o (least_shift others)) is))
        (lesser_below n (least_shift others)) in
        let below =
        below_from (greatest_size (values ++ others))
        (10 ^ (18 + common_shift (values ++ others)))
        (sym (share_by_greatest (values ++ others)) ∙ share) in
        let powers : 10 ^ (18 + common_shift (values ++ others)) ≤ 10 ^ (18 + common_shift values) =
        pow-le-pow_right {n = 10} (omega arith) (omega (arith, own, both)) in
        share_by_greatest values
        ∙ is_below (greatest_size values) (10 ^ (18 + common_shift values))
        (omega (arith, below, powers, greatest-append values others))

pub fit_front : (samples others : List Stamped) → fit_one_block (samples ++ others) ≡ true
    → fit_one_block samples ≡ true
fit_front samples others fit =
    let parts =
    and_parts (nat_le (length (samples ++ others)) 8192)
    (share_exponent (values_of (samples ++ others))) fit in
    and_from (nat_le (length samples) 8192) (share_exponent (values_of samples))
    (shorter (length (samples ++ others)) (length samples)
    (omega (arith, length-append samples others)) parts.0)
    (share_front (values_of samples) (values_of others)
    (ap share_exponent (sym (map-append (λ s. s.value) samples others)) ∙ parts.1))
  where
    shorter : (n m : ℕ) → m ≤ n → nat_le n 8192 ≡ true → nat_le m 8192 ≡ true
    shorter n m less few = grind (arith, nat_tests)

-- ---- one cut

-- what each block is
abbrev IsBlock : List Stamped → Type 0
IsBlock block = (1 ≤ length block) × (fit_one_block block ≡ true)

-- the first sample of two lists that begin one
same_first : (first other rest left : List Stamped) → 1 ≤ length first → 1 ≤ length other → first
    ++ rest ≡ other ++ left → take 1 first ≡ take 1 other
same_first [] other rest left some more same = absurd (omega arith)
same_first (x ∷ first) [] rest left some more same = absurd (omega arith)
same_first (x ∷ first) (y ∷ other) rest left some more same = let head : x ≡ y =
    cc in ap (λ s. s ∷ []) head

clash : (b : Bool) → b ≡ true → b ≡ false → ⊥
clash b holds fails = cc

-- a block that ends doesn't begin a longer one
ends_there : (block : List Stamped) (blocks : List (List Stamped)) (longer left : List Stamped)
    → AreFull (block ∷ blocks)
    → AllByRecursion IsBlock blocks → block ++ joined blocks ≡ longer ++ left
    → length block < length longer → fit_one_block longer ≡ true → ⊥
ends_there block blocks longer left full each same less fit =
    let n = length block in
    let front : take n longer ≡ block =
    sym (take-append-le n longer left (omega arith)) ∙ ap (take n) (sym same)
    ∙ take_at block (joined blocks) n refl in
    let parts : block ++ drop n longer ≡ longer = ap (λ xs. xs ++ drop n longer) (sym front)
    ∙ take-append-drop n longer in
    let behind : joined blocks ≡ drop n longer ++ left =
    sym (drop_at block (joined blocks) n refl)
    ∙ ap (drop n)
    (same ∙ ap (λ xs. xs ++ left) (sym parts) ∙ append_assoc block (drop n longer) left)
    ∙ drop_at block (drop n longer ++ left) n refl in
    by_next blocks (drop n longer) full each parts behind (omega (arith, length-drop n longer))
  where
    by_next : (next : List (List Stamped)) (rest : List Stamped) → AreFull (block ∷ next)
        → AllByRecursion IsBlock next
        → block ++ rest ≡ longer → joined next ≡ rest ++ left → 1 ≤ length rest → ⊥
    by_next [] rest full each parts behind some =
        absurd (omega (arith, ap length behind, length-append rest left))
    by_next (c ∷ more) rest full each parts behind some =
        let first = same_first c rest (joined more) left each.0.0 some behind in
        let whole : block ++ take 1 c ++ drop 1 rest ≡ longer =
        ap (λ xs. block ++ xs ++ drop 1 rest) first ∙ append_assoc block (take 1 rest) (drop 1 rest)
        ∙ ap (λ xs. block ++ xs) (take-append-drop 1 rest) ∙ parts in
        let fits = fit_front (block ++ take 1 c) (drop 1 rest) (ap fit_one_block whole ∙ fit) in
        clash (fit_one_block (block ++ take 1 c)) fits full.0

full_rest : (block : List Stamped) (blocks : List (List Stamped)) → AreFull (block ∷ blocks)
    → AreFull blocks
full_rest block [] full = tt
full_rest block (next ∷ more) full = full.1

same_cut : (one two : List (List Stamped)) → joined one ≡ joined two → AllByRecursion IsBlock one
    → AllByRecursion IsBlock two
    → AreFull one → AreFull two → one ≡ two
same_cut [] [] same first second full other = refl
same_cut [] (b ∷ two) same first second full other =
    absurd (omega (arith, second.0.0, ap length same, length-append b (joined two)))
same_cut (a ∷ one) [] same first second full other =
    absurd (omega (arith, first.0.0, ap length same, length-append a (joined one)))
same_cut (a ∷ one) (b ∷ two) same first second full other =
    elim (cases_order (length a) (length b)) [
      | inl len ↦
          let heads : a ≡ b = sym (take_at a (joined one) (length a) refl)
          ∙ ap (take (length a)) same ∙ take_at b (joined two) (length a) (sym len) in
          let rests : joined one ≡ joined two = sym (drop_at a (joined one) (length a) refl)
          ∙ ap (drop (length a)) same ∙ drop_at b (joined two) (length a) (sym len) in
          ap₂ (λ x xs. x ∷ xs) heads
          (same_cut one two rests first.1 second.1 (full_rest a one full) (full_rest b two other))
      | inr apart ↦
          ⊎_elim (λ below.
          absurd (ends_there a one b (joined two) full first.1 same below second.0.1))
          (λ past.
          absurd (ends_there b two a (joined one) other second.1 (sym same) past first.0.1))
          apart
    ]

pub one_cut : (samples : List Stamped) (one two : List (List Stamped)) → IsCut samples one
    → IsCut samples two → one ≡ two
one_cut samples one two is other =
    same_cut one two (is.whole ∙ sym other.whole) is.each other.each is.full other.full

-- ---- whether one block takes all

pub fills : (samples : List Stamped) (n : ℕ) → 1 ≤ n → n ≤ length samples
    → fit_one_block (take n samples) ≡ true
    → (n < length samples → fit_one_block (take (n + 1) samples) ≡ false)
    → ((n == length samples) ≡ true) ↔ ((1 ≤ length samples) × (fit_one_block samples ≡ true))
fills samples n some within fits longest = (forth, back)
  where
    same_number : (a b : ℕ) → (a == b) ≡ true → a ≡ b
    same_number a b same = grind (arith, nat_tests)

    all_taken : n ≡ length samples → take n samples ≡ samples
    all_taken same = take_all n samples (omega (arith, same))

    forth : (n == length samples) ≡ true → (1 ≤ length samples) × (fit_one_block samples ≡ true)
    forth test =
        let same = same_number n (length samples) test in
        (omega (arith, same, some), ap fit_one_block (sym (all_taken same)) ∙ fits)

    back : (1 ≤ length samples) × (fit_one_block samples ≡ true) → (n == length samples) ≡ true
    back both =
        elim (cases_eq n (length samples)) [
          | inl same ↦ test n (length samples) same
          | inr apart ↦
              let front = fit_front (take (n + 1) samples) (drop (n + 1) samples)
              (ap fit_one_block (take-append-drop (n + 1) samples) ∙ both.1) in
              absurd (clash (fit_one_block (take (n + 1) samples)) front (longest (omega arith)))
        ]
      where
        test : (a b : ℕ) → a ≡ b → (a == b) ≡ true
        test a b same = grind (arith, nat_tests)
