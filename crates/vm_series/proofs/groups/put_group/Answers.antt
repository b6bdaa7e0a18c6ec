use Rattle.std.proofs.Common.{◌≡◌, ◌<◌, ◌++◌, [], ◌∷◌, length, vec_len, append-nil, sym, ap, ap₂, ◌∙◌, arith}
use Rattle.std.proofs.lemmas.Bool.Decides.{nat_tests}
use Rattle.std.proofs.lemmas.Result.{IfOk-equal}
use Rattle.vm_base.specs.Stamped.{is_in_order}
use Rattle.vm_base.specs.Thinned.{thinned}
use Rattle.vm_series.specs.inner.Pieces.{samples_of}
use Rattle.vm_series.proofs.Lists.{length-sorted}
use Rattle.vm_series.proofs.GroupLaws.{series-none, series-one}
use Rattle.vm_series.proofs.groups.put_group.Goals as goal

pub returns-then-is_empty : goal.returns-then-is_empty
returns-then-is_empty c =
    let group = c.args.group.now in
    let many : length c.in_ok-samples.samples.items ≡ length (samples_of group) =
    ap length c.in_ok-samples.ensures ∙ length-sorted is_in_order (samples_of group) in
    let counted : vec_len c.in_ok-samples.samples ≡ 0 = grind (arith, nat_tests) in
    let none : length (samples_of group) ≡ 0 =
    omega (arith, many, counted, c.in_ok-samples.samples.ok.0) in
    sym (ap (λ s. c.args.all.now ++ s) (series-none c.args.interval group none)
    ∙ append-nil c.args.all.now)

pub returns : goal.returns
returns c =
    let group = c.args.group.now in
    let many : length c.in_ok-samples.samples.items ≡ length (samples_of group) =
    ap length c.in_ok-samples.ensures ∙ length-sorted is_in_order (samples_of group) in
    let counted : 0 < vec_len c.in_ok-samples.samples = grind (arith, nat_tests) in
    let some : 0 < length (samples_of group) =
    omega (arith, many, counted, c.in_ok-samples.samples.ok.0) in
    IfOk-equal c.push.result c.push.new.self _ _ c.push.ensures.ok
    (ap (λ s. c.args.all.now ++ s)
    (ap₂ (λ l s. record { labels = l; samples = s } ∷ []) c.in_ok-copied.ensures
    (c.in_ok-thinned.ensures
    ∙ ap (thinned c.args.interval) (c.deref.ensures.value ∙ c.in_ok-samples.ensures))
    ∙ sym (series-one c.args.interval c.args.labels.now group c.requires some)))
