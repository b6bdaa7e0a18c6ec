use Rattle.std.proofs.Common.{◌≡◌, ◌+◌, true, false, ◌∷◌, sym, ◌∙◌, ap}
use Rattle.vm_labels.specs.Labels.{is_among}
use Rattle.vm_labels.proofs.BuildLaws.{names_before, names_before-more, twice_step, twice_found, seen_more, has_key, negated}
use Rattle.vm_labels.proofs.build.twice_named.Goals as goal

pub returns-then-not-branch : goal.returns-then-not-branch
returns-then-not-branch c =
    let p = c.pair-item.result in
    let i = c.loop-pair.pair-index in
    let old : is_among (names_before i c.args.pairs.now) p.name ≡ true =
    ap (is_among (names_before i c.args.pairs.now)) (sym c.as_str.ensures)
    ∙ sym (c.loop-pair.invariant.seen c.as_str.result.now)
    ∙ negated _ _ c.in_ok-insert.ensures.added c.if-not-branch.true in
    twice_found c.args.pairs.now i p _ c.loop-pair-test.true c.pair-item.is old
    c.loop-pair.invariant.so_far

pub loop-pair-preserved : goal.loop-pair-preserved
loop-pair-preserved c =
    let ps = c.args.pairs.now in
    let p = c.pair-item.result in
    let i = c.loop-pair.pair-index in
    let key = c.as_str.result in
    let new : is_among (names_before i ps) p.name ≡ false =
    ap (is_among (names_before i ps)) (sym c.as_str.ensures)
    ∙ sym (c.loop-pair.invariant.seen key.now)
    ∙ negated _ _ c.in_ok-insert.ensures.added c.if-not-branch.false in
    let front : names_before (i + 1) ps ≡ key.now ∷ names_before i ps =
    names_before-more ps i p c.loop-pair-test.true
    ∙ ap (λ q. q.name ∷ names_before i ps) (sym c.pair-item.is)
    ∙ ap (λ t. t ∷ names_before i ps) (sym c.as_str.ensures) in
    record {
      seen = λ q. ap (has_key q) c.in_ok-insert.ensures.keys
          ∙ seen_more q c.loop-pair.seen.keys key (names_before i ps) (c.loop-pair.invariant.seen q)
          ∙ ap (λ names. is_among names q) (sym front);
      so_far =
          twice_step ps i p _ c.loop-pair-test.true c.pair-item.is new c.loop-pair.invariant.so_far;
    }
