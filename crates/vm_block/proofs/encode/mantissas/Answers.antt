-- One mantissa more.
use Rattle.std.proofs.Common.{◌≡◌, ◌++◌, ◌∷◌, [], All, map, ap, sym, subst, ◌∙◌, w64, rules}
use Rattle.std.proofs.lemmas.Int.{to_z-of_z}
use Rattle.vm_codec.specs.Coding.{IsInBounds}
use Rattle.vm_block.specs.inner.Reading.{raised_by}
use Rattle.vm_block.proofs.Mantissas.{item_least, item_digits, bounds_more, mantissas_more, samples_more}
use Rattle.vm_block.proofs.encode.mantissas.Goals as goal

pub mantissa-requires-clause-least : goal.mantissa-requires-clause-least
mantissa-requires-clause-least c =
    item_least c.args.samples.now c.loop-sample.sample-index c.sample-item.result c.args.shift
    c.loop-sample-test.true c.sample-item.is c.requires.shift

pub mantissa-requires-clause-digits : goal.mantissa-requires-clause-digits
mantissa-requires-clause-digits c =
    item_digits c.args.samples.now c.loop-sample.sample-index c.sample-item.result c.args.shift
    c.loop-sample-test.true c.sample-item.is c.requires.shift
    c.requires.share

pub loop-sample-preserved : goal.loop-sample-preserved
loop-sample-preserved c =
    let samples = c.args.samples.now in
    let i = c.loop-sample.sample-index in
    let s = c.sample-item.result in
    let ms = c.loop-sample.mantissas.items in
    let m = c.mantissa.result in
    let list : c.push.new.self.items ≡ ms ++ m ∷ [] = c.in_ok-push.ensures.items
    ∙ ap (λ z. ms ++ z ∷ []) (to_z-of_z w64 m (search rules)) in
    record {
      values =
          mantissas_more c.args.shift samples i s ms m c.loop-sample-test.true c.sample-item.is
          c.mantissa.ensures.value c.loop-sample.invariant.values
          ∙ ap (map (raised_by c.args.shift)) (sym list);
      bounds =
          subst (All IsInBounds) (sym list)
          (bounds_more ms m c.loop-sample.invariant.bounds c.mantissa.ensures.bound);
      samples =
          samples_more samples i s c.loop-sample-test.true c.sample-item.is
          c.mantissa.ensures.sample c.loop-sample.invariant.samples;
    }
