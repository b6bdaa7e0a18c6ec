-- Series of rows can be stored.
use Rattle.std.proofs.Common.{◌≡◌, ℕ, ◌^◌, ◌<◌, ◌≤◌, Bool, true, false, cond, List, [], ◌∷◌, length, map, arith}
use Rattle.std.specs.Prelude.{None}
use Rattle.std.specs.List.{AllByRecursion, dedup, dedup_from}
use Rattle.std.proofs.lemmas.List.{length-map}
use Rattle.vm_base.specs.Sorted.{put_in, sorted}
use Rattle.vm_base.specs.declared.stamped.Stamped.{Stamped}
use Rattle.vm_dedup.specs.Visible.{stamped}
use Rattle.vm_index.specs.Index.{KeepLimits}
use Rattle.vm_index.proofs.ListLaws.{all_more}
use Rattle.vm_labels.specs.Labels.{is_in_label_order, label_eq, limit_of}
use Rattle.vm_labels.specs.declared.pair.Pair.{Pair}
use Rattle.vm_labels.specs.declared.row.Row.{Row}
use Rattle.vm_series.specs.Series.{series_among, series_of, sets_among}
use Rattle.vm_series.specs.declared.series.Series.{Series}
use Rattle.vm_series.proofs.SeriesLaws.{are_series, each_kept, each_set_kept}
use Rattle.vm_part.specs.Said.{CanBeStored, IsRow}

-- ---- some series

module _ {X : Type 0} where
  some_put : (le : X → X → Bool) (x : X) (ys : List X) → 1 ≤ length (put_in le x ys)
  some_put le x [] = omega arith
  some_put le x (y ∷ ys) =
      elim (le x y) as (λ b. 1 ≤ length (cond b (x ∷ y ∷ ys) (y ∷ put_in le x ys)))
      [ true ↦ omega arith | false ↦ omega arith ]

  some_sorted : (le : X → X → Bool) (xs : List X) → 1 ≤ length xs → 1 ≤ length (sorted le xs)
  some_sorted le [] some = some
  some_sorted le (x ∷ xs) some = some_put le x (sorted le xs)

  some_from : (eq : X → X → Bool) (k : X) (ys : List X) → 1 ≤ length (dedup_from eq k ys)
  some_from eq k [] = omega arith
  some_from eq k (y ∷ ys) =
      elim (eq y k) as (λ b. 1 ≤ length (cond b (dedup_from eq k ys) (k ∷ dedup_from eq y ys)))
      [ true ↦ some_from eq k ys | false ↦ omega arith ]

  some_once : (eq : X → X → Bool) (xs : List X) → 1 ≤ length xs → 1 ≤ length (dedup eq xs)
  some_once eq [] some = some
  some_once eq (x ∷ xs) some = some_from eq x xs

some_series : (d : ℕ) (rows : List Row) → 1 ≤ length rows → 1 ≤ length (series_of d rows)
some_series d rows some =
    let sets : List (List Pair) = map (λ (row : Row). row.labels) rows in
    let many : 1 ≤ length sets = omega (arith, length-map rows (λ (row : Row). row.labels), some) in
    omega (
      arith,
      length-map (sets_among rows) (series_among d rows),
      some_once label_eq (sorted is_in_label_order sets)
          (some_sorted is_in_label_order sets many),
    )

-- ---- their labels and times

abbrev InLimits : List Pair → Type 0
InLimits set = limit_of set ≡ None

limits_of : (all : List Series) → AllByRecursion (λ (s : Series). InLimits s.labels) all
    → KeepLimits (map (λ (s : Series). s.labels) all)
limits_of [] all = tt
limits_of (s ∷ more) all = (all.0, limits_of more all.1)

abbrev IsEarly : List Pair → Stamped → Type 0
IsEarly set sample = sample.time < 2 ^ 48

-- the series of some rows that may stand in a part
pub can_be_stored : (d : ℕ) (rows : List Row) → 1 ≤ length rows → AllByRecursion IsRow rows
    → CanBeStored (series_of d rows)
can_be_stored d rows some all = record {
  some = some_series d rows some;
  are = are_series d rows;
  limits =
      limits_of (series_of d rows)
      (each_set_kept InLimits d rows
      (all_more IsRow (λ (row : Row). InLimits row.labels) (λ row is. is.labels) rows all));
  times = each_kept IsEarly d rows
      (all_more IsRow (λ (row : Row). IsEarly row.labels (stamped row)) (λ row is. is.time) rows
      all);
}
