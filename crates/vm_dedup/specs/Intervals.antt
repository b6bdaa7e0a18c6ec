-- The samples that deduplication keeps, said of each by what comes after it.
use Rattle.std.specs.Prelude.{ℕ, List, [], ◌∷◌, if◌then◌else◌}
use Rattle.std.specs.List.{list_any}
use Rattle.vm_base.specs.declared.stamped.Stamped.{Stamped}
use Rattle.vm_base.specs.Thinned.{is_one_interval}

-- the samples of which no later one falls into the same interval of d ms
abbrev pub last_of_intervals : ℕ → List Stamped → List Stamped
last_of_intervals d [] = []
last_of_intervals d (sample ∷ more) =
    if list_any (is_one_interval d sample) more then last_of_intervals d more
    else sample ∷ last_of_intervals d more
