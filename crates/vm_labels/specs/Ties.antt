-- Label sets are the same exactly where neither comes before the other, as the laws of `Ord` want.
use Rattle.std.specs.Prelude.{◌≡◌, List}
use Rattle.std.specs.Ordering.{eq_by_cmp}
use Rattle.std.specs.Cmp.{both_tied}
use Rattle.std.specs.Cmp.Lexicographic.{lists_ties, texts_ties}
use Rattle.vm_labels.specs.Labels.{text_cmp, pair_cmp, pair_eq, label_cmp, label_eq}
use Rattle.vm_labels.specs.declared.pair.Pair.{Pair}

-- two pairs are the same exactly where neither comes before the other
pub pairs_tie : (p q : Pair) → pair_eq p q ≡ eq_by_cmp pair_cmp p q
pairs_tie p q =
    both_tied _ _ (text_cmp p.name q.name) (text_cmp p.value q.value) (texts_ties p.name q.name)
    (texts_ties p.value q.value)

-- two label sets are the same exactly where neither comes before the other
pub labels_tie : (a b : List Pair) → label_eq a b ≡ eq_by_cmp label_cmp a b
labels_tie = lists_ties pair_cmp pairs_tie
