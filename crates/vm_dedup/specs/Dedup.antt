-- What a deduplication is in the middle of its work.
use Rattle.std.specs.Prelude.{ℕ, List}
use Rattle.vm_base.specs.declared.stamped.Stamped.{Stamped}

-- the length of an interval in ms, and the sample that still may stay or go, where there is one
pub record Thinning : Type 0 where
  pub interval : ℕ
  pub held : List Stamped
