use Rattle.std.proofs.Common.{sym, ◌∙◌}
use Rattle.vm_top.specs.inner.Said.{said}
use Rattle.vm_top.proofs.SaidLaws.{lines_mean, lines_mean_one}
use Rattle.vm_top.proofs.laws.lines_mean_one_thing.Goals as goal

pub returns : goal.returns
returns c = record {
  some = λ format now lines. (said format now lines, lines_mean format now lines);
  one = λ format now lines one other is is_other.
      lines_mean_one format now lines one is ∙ sym (lines_mean_one format now lines other is_other);
}
