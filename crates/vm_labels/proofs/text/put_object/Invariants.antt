use Rattle.std.proofs.Common.{◌≡◌, ◌++◌, ◌∷◌, take}
use Rattle.std.specs.Prelude.{flat_map}
use Rattle.json.specs.Token.{begin_object}
use Rattle.vm_labels.specs.Text.{pair_tokens}
use Rattle.vm_labels.proofs.text.put_object.Given as goal

abbrev pub invariant-loop-pair : goal.invariant-loop-pair
invariant-loop-pair l = record {
  tokens : l.writer.tokens ≡ l.fn.writer.tokens
      ++ begin_object ∷ flat_map pair_tokens (take l.pair-index l.pairs);
  before : l.writer.before ≡ l.fn.writer.before;
}
