-- Deduplication: of the samples of one interval the greatest one stays. (VictoriaMetrics,
-- "Deduplication")
use Rattle.std.specs.Prelude.{ℕ, ◌+◌, ◌-◌, ◌/◌, ◌==◌, ◌&&◌, nat_lt, Bool, List, [], ◌∷◌, if◌then◌else◌}
use Rattle.vm_base.specs.declared.stamped.Stamped.{Stamped}

-- the interval of d ms that a time falls into: ceil(time / d), so that each ends at a multiple of d
abbrev pub interval_of : ℕ → ℕ → ℕ
interval_of d time = (time + d - 1) / d

-- whether two samples fall into one interval; where d is 0 no two do
abbrev pub is_one_interval : ℕ → Stamped → Stamped → Bool
is_one_interval d a b = nat_lt 0 d && interval_of d a.time == interval_of d b.time

-- of samples in order the last one of each interval of d ms, which is the greatest; all where d is
-- 0
abbrev pub thinned : ℕ → List Stamped → List Stamped
thinned d [] = []
thinned d (sample ∷ []) = sample ∷ []
thinned d (sample ∷ next ∷ more) =
    if is_one_interval d sample next then thinned d (next ∷ more)
    else sample ∷ thinned d (next ∷ more)
