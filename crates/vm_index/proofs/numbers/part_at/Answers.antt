use Rattle.std.proofs.Common.{◌≡◌, ap, ◌∙◌, length, take, drop, inl, inr, arith, not, unwrap_or}
use Rattle.std.specs.Prelude.{nat_le}
use Rattle.std.specs.List.{position_or_len}
use Rattle.vm_index.proofs.ListLaws.{position_is, prefix_within}
use Rattle.vm_index.proofs.NumberLaws.{taken, dropped, first_is, first_isnt, from}
use Rattle.vm_index.proofs.numbers.part_at.Goals as goal

pub split_at-requires : goal.split_at-requires
split_at-requires c =
    let is : c.unwrap_or-at.result ≡ position_or_len (nat_le c.args.n) c.args.numbers.now =
    c.unwrap_or-at.ensures ∙ ap (λ o. unwrap_or o (length c.args.numbers.now)) c.place_from.ensures
    ∙ position_is (nat_le c.args.n) c.args.numbers.now in
    rw is (prefix_within (λ m. not (nat_le c.args.n m)) c.args.numbers.now)

pub returns-then-first-n-clause-below : goal.returns-then-first-n-clause-below
returns-then-first-n-clause-below c =
    let is : c.unwrap_or-at.result ≡ position_or_len (nat_le c.args.n) c.args.numbers.now =
    c.unwrap_or-at.ensures ∙ ap (λ o. unwrap_or o (length c.args.numbers.now)) c.place_from.ensures
    ∙ position_is (nat_le c.args.n) c.args.numbers.now in
    c.split_at.ensures.front ∙ ap (λ k. take k c.args.numbers.now) is
    ∙ taken c.args.n c.args.numbers.now c.requires

pub returns-then-first-n-clause-found : goal.returns-then-first-n-clause-found
returns-then-first-n-clause-found c =
    let is : c.unwrap_or-at.result ≡ position_or_len (nat_le c.args.n) c.args.numbers.now =
    c.unwrap_or-at.ensures ∙ ap (λ o. unwrap_or o (length c.args.numbers.now)) c.place_from.ensures
    ∙ position_is (nat_le c.args.n) c.args.numbers.now in
    let rest : c.split_at.result.1.now ≡ from c.args.n c.args.numbers.now =
    c.split_at.ensures.back ∙ ap (λ k. drop k c.args.numbers.now) is
    ∙ dropped c.args.n c.args.numbers.now c.requires in
    (first_is c.args.n c.args.numbers.now c.split_at.result.1.now c.requires rest
    c.in-len1-up.len_at_least c.if-first-n.true).0

pub returns-then-first-n-clause-above : goal.returns-then-first-n-clause-above
returns-then-first-n-clause-above c =
    let is : c.unwrap_or-at.result ≡ position_or_len (nat_le c.args.n) c.args.numbers.now =
    c.unwrap_or-at.ensures ∙ ap (λ o. unwrap_or o (length c.args.numbers.now)) c.place_from.ensures
    ∙ position_is (nat_le c.args.n) c.args.numbers.now in
    let rest : c.split_at.result.1.now ≡ from c.args.n c.args.numbers.now =
    c.split_at.ensures.back ∙ ap (λ k. drop k c.args.numbers.now) is
    ∙ dropped c.args.n c.args.numbers.now c.requires in
    (first_is c.args.n c.args.numbers.now c.split_at.result.1.now c.requires rest
    c.in-len1-up.len_at_least c.if-first-n.true).1

pub returns-else-first-n-clause-below : goal.returns-else-first-n-clause-below
returns-else-first-n-clause-below c =
    let is : c.unwrap_or-at.result ≡ position_or_len (nat_le c.args.n) c.args.numbers.now =
    c.unwrap_or-at.ensures ∙ ap (λ o. unwrap_or o (length c.args.numbers.now)) c.place_from.ensures
    ∙ position_is (nat_le c.args.n) c.args.numbers.now in
    c.split_at.ensures.front ∙ ap (λ k. take k c.args.numbers.now) is
    ∙ taken c.args.n c.args.numbers.now c.requires

pub returns-else-first-n-clause-found : goal.returns-else-first-n-clause-found
returns-else-first-n-clause-found c =
    let is : c.unwrap_or-at.result ≡ position_or_len (nat_le c.args.n) c.args.numbers.now =
    c.unwrap_or-at.ensures ∙ ap (λ o. unwrap_or o (length c.args.numbers.now)) c.place_from.ensures
    ∙ position_is (nat_le c.args.n) c.args.numbers.now in
    let rest : c.split_at.result.1.now ≡ from c.args.n c.args.numbers.now =
    c.split_at.ensures.back ∙ ap (λ k. drop k c.args.numbers.now) is
    ∙ dropped c.args.n c.args.numbers.now c.requires in
    (first_isnt c.args.n c.args.numbers.now c.split_at.result.1.now c.requires rest
    (inr c.if-first-n.false)).0

pub returns-else-first-n-clause-above : goal.returns-else-first-n-clause-above
returns-else-first-n-clause-above c =
    let is : c.unwrap_or-at.result ≡ position_or_len (nat_le c.args.n) c.args.numbers.now =
    c.unwrap_or-at.ensures ∙ ap (λ o. unwrap_or o (length c.args.numbers.now)) c.place_from.ensures
    ∙ position_is (nat_le c.args.n) c.args.numbers.now in
    let rest : c.split_at.result.1.now ≡ from c.args.n c.args.numbers.now =
    c.split_at.ensures.back ∙ ap (λ k. drop k c.args.numbers.now) is
    ∙ dropped c.args.n c.args.numbers.now c.requires in
    (first_isnt c.args.n c.args.numbers.now c.split_at.result.1.now c.requires rest
    (inr c.if-first-n.false)).1

pub returns-in-empty-clause-below : goal.returns-in-empty-clause-below
returns-in-empty-clause-below c =
    let is : c.unwrap_or-at.result ≡ position_or_len (nat_le c.args.n) c.args.numbers.now =
    c.unwrap_or-at.ensures ∙ ap (λ o. unwrap_or o (length c.args.numbers.now)) c.place_from.ensures
    ∙ position_is (nat_le c.args.n) c.args.numbers.now in
    c.split_at.ensures.front ∙ ap (λ k. take k c.args.numbers.now) is
    ∙ taken c.args.n c.args.numbers.now c.requires

pub returns-in-empty-clause-found : goal.returns-in-empty-clause-found
returns-in-empty-clause-found c =
    let is : c.unwrap_or-at.result ≡ position_or_len (nat_le c.args.n) c.args.numbers.now =
    c.unwrap_or-at.ensures ∙ ap (λ o. unwrap_or o (length c.args.numbers.now)) c.place_from.ensures
    ∙ position_is (nat_le c.args.n) c.args.numbers.now in
    let rest : c.split_at.result.1.now ≡ from c.args.n c.args.numbers.now =
    c.split_at.ensures.back ∙ ap (λ k. drop k c.args.numbers.now) is
    ∙ dropped c.args.n c.args.numbers.now c.requires in
    (first_isnt c.args.n c.args.numbers.now c.split_at.result.1.now c.requires rest
    (inl (omega arith))).0

pub returns-in-empty-clause-above : goal.returns-in-empty-clause-above
returns-in-empty-clause-above c =
    let is : c.unwrap_or-at.result ≡ position_or_len (nat_le c.args.n) c.args.numbers.now =
    c.unwrap_or-at.ensures ∙ ap (λ o. unwrap_or o (length c.args.numbers.now)) c.place_from.ensures
    ∙ position_is (nat_le c.args.n) c.args.numbers.now in
    let rest : c.split_at.result.1.now ≡ from c.args.n c.args.numbers.now =
    c.split_at.ensures.back ∙ ap (λ k. drop k c.args.numbers.now) is
    ∙ dropped c.args.n c.args.numbers.now c.requires in
    (first_isnt c.args.n c.args.numbers.now c.split_at.result.1.now c.requires rest
    (inl (omega arith))).1
