-- The rows of parts have series that can be stored.
use Rattle.std.proofs.Common.{◌≡◌, map, flat_map, ap, ◌∙◌, sym, subst}
use Rattle.std.proofs.lemmas.Result.{IfOk-weaker}
use Rattle.vm_series.specs.Series.{series_of}
use Rattle.vm_part.specs.Said.{CanBeStored, IsMadeOf, IsMergedOf, rows_in}
use Rattle.vm_part.proofs.MergeLaws.{holds, kept, rows_are, some_row}
use Rattle.vm_part.proofs.SeriesFacts.{can_be_stored}
use Rattle.vm_part.proofs.part.MemPart.of_parts.Goals as goal

pub build-requires : goal.build-requires
build-requires c =
    let r = c.in_ok-read.ensures in
    let parts = c.args.parts.now in
    let d = c.args.interval in
    subst CanBeStored
    (sym (c.in_ok-series.ensures
    ∙ ap (series_of d) (c.in_ok-pieces.ensures r.alls r.said (c.as_slice.ensures ∙ r.samples))))
    (can_be_stored d (flat_map rows_in r.alls) (some_row kept parts r.alls r.said c.requires)
    (rows_are (map kept parts) r.alls r.said))

pub returns : goal.returns
returns c =
    let r = c.in_ok-read.ensures in
    let parts = c.args.parts.now in
    let d = c.args.interval in
    let series = c.in_ok-series.series in
    let are : series ≡ series_of d (flat_map rows_in r.alls) =
    c.in_ok-series.ensures
    ∙ ap (series_of d)
    (c.in_ok-pieces.ensures r.alls r.said (c.as_slice.ensures ∙ r.samples)) in
    IfOk-weaker c.build.result (λ part. IsMadeOf series part)
    (λ part. IsMergedOf d (map kept parts) part)
    (λ part made. record {
      alls = r.alls;
      hold = holds (map kept parts) r.alls r.said;
      made = subst (λ s. IsMadeOf s part) are made;
    }) c.build.ensures
