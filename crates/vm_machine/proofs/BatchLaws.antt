-- Lines between those that hold a row.
use Rattle.std.proofs.Common.{◌≡◌, ◌<◌, List, [], ◌∷◌, length, append-nil, false, refl}
use Rattle.std.proofs.lemmas.Bool.{lt-leb}
use Rattle.std.specs.Prelude.{nat_le}
use Rattle.vm_labels.specs.declared.row.Row.{Row}
use Rattle.vm_machine.specs.Batches.{Parted, enough, with_more}

-- a line that holds no row changes nothing where too few rows are in hand for a batch
pub no_row : (parted : Parted) (more : List (List Row)) → length parted.held < enough
    → with_more parted ([] ∷ more) ≡ with_more parted more
no_row parted more few =
    let too_few : nat_le enough (length parted.held) ≡ false =
    lt-leb enough (length parted.held) few in
    rw (append-nil, too_few) refl
