use Rattle.std.proofs.Common.{◌≡◌, ◌<◌, length, get_or, Equal, Greater, Less, sym, ◌∙◌, ap}
use Rattle.vm_labels.specs.Labels.{text_cmp}
use Rattle.vm_labels.proofs.BuildLaws.{get_here, get_further, get_passed}
use Rattle.vm_labels.proofs.labels.Labels.get.Goals as goal

pub returns-in-Equal : goal.returns-in-Equal
returns-in-Equal c =
    let p = c.pair-item.result in
    let same : text_cmp p.name c.args.name.now ≡ Equal =
    ap (λ t. text_cmp t c.args.name.now) (sym c.as_str.ensures) ∙ sym c.cmp.ensures
    ∙ c.in-Equal.is in
    let within : c.loop-pair.pair-index < length c.args.self.now =
    rw (← c.as_slice-pair-items.ensures.pairs) c.loop-pair-test.true in
    let is : p ≡ get_or c.args.self.now c.loop-pair.pair-index p =
    rw (← c.as_slice-pair-items.ensures.pairs) c.pair-item.is in
    rw c.as_str-in-Equal.ensures
    (get_here c.args.self.now c.loop-pair.pair-index p c.args.name.now _ within is same
    c.loop-pair.invariant)

pub returns-in-Greater : goal.returns-in-Greater
returns-in-Greater c =
    let p = c.pair-item.result in
    let after : text_cmp p.name c.args.name.now ≡ Greater =
    ap (λ t. text_cmp t c.args.name.now) (sym c.as_str.ensures) ∙ sym c.cmp.ensures
    ∙ c.in-Greater.is in
    let within : c.loop-pair.pair-index < length c.args.self.now =
    rw (← c.as_slice-pair-items.ensures.pairs) c.loop-pair-test.true in
    let is : p ≡ get_or c.args.self.now c.loop-pair.pair-index p =
    rw (← c.as_slice-pair-items.ensures.pairs) c.pair-item.is in
    get_passed c.args.self.now c.loop-pair.pair-index p c.args.name.now _ within is after
    c.as_slice-pair-items.ensures.labels.rising c.loop-pair.invariant

pub loop-pair-preserved : goal.loop-pair-preserved
loop-pair-preserved c =
    let p = c.pair-item.result in
    let before : text_cmp p.name c.args.name.now ≡ Less =
    ap (λ t. text_cmp t c.args.name.now) (sym c.as_str.ensures) ∙ sym c.cmp.ensures
    ∙ c.in-Less.is in
    let within : c.loop-pair.pair-index < length c.args.self.now =
    rw (← c.as_slice-pair-items.ensures.pairs) c.loop-pair-test.true in
    let is : p ≡ get_or c.args.self.now c.loop-pair.pair-index p =
    rw (← c.as_slice-pair-items.ensures.pairs) c.pair-item.is in
    get_further c.args.self.now c.loop-pair.pair-index p c.args.name.now _ within is before
    c.loop-pair.invariant
