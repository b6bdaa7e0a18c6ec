-- The order of samples: by time, and at one time by value.
use Rattle.std.specs.Prelude.{◌==◌, ◌&&◌, ◌||◌, nat_lt, int_le, Bool}
use Rattle.vm_base.specs.declared.stamped.Stamped.{Stamped}

-- whether a comes before b, or is the same
abbrev pub is_in_order : Stamped → Stamped → Bool
is_in_order a b = nat_lt a.time b.time || (a.time == b.time && int_le a.value b.value)
