use Rattle.std.proofs.Common.{◌≡◌, ◌≤◌, ◌+◌, ◌-◌, drop, length}
use Rattle.vm_decimal.specs.WordPlaces.{common as common_front}
use Rattle.vm_decimal.proofs.words.common.Given as goal

abbrev pub invariant-front : goal.invariant-front
invariant-front l = record {
  in_word : l.front ≤ length l.word;
  in_text : l.front ≤ length l.text;
  same : common_front l.word l.text ≡ l.front
      + common_front (drop l.front l.word) (drop l.front l.text);
}

abbrev pub decreases-front : goal.decreases-front
decreases-front l = length l.word - l.front
