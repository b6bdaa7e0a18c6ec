-- Series of rows can be stored.
use Rattle.std.proofs.Common.{ap, ◌∙◌, sym, subst}
use Rattle.vm_series.specs.Series.{series_of}
use Rattle.vm_part.specs.Said.{CanBeStored}
use Rattle.vm_part.proofs.SeriesFacts.{can_be_stored}
use Rattle.vm_part.proofs.part.MemPart.of_batch.Goals as goal

pub build-requires : goal.build-requires
build-requires c =
    subst CanBeStored
    (sym (c.in_ok-series.ensures
    ∙ ap (series_of 0) (c.in_ok-pieces.ensures ∙ c.as_slice-rows.ensures)))
    (can_be_stored 0 c.args.batch.now.rows c.requires.some c.requires.rows)
