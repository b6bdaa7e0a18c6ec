-- What a step of the reader gives.
use Rattle.std.specs.Prelude.{◌≡◌, Option, Some, None, Result, Ok, Err, ⊤}
use Rattle.vm_jsonline.specs.declared.stop.Stop.{Stop}
use Rattle.vm_jsonline.specs.declared.stop.Stop.TheVariants.{Memory, Faulty}

-- none where the line has a fault; where memory runs out nothing is said
abbrev pub Fails : {Y : Type 0} → Stop → Option Y → Type 0
Fails Memory read = ⊤
Fails Faulty read = read ≡ None

-- What a step gives, seen by view, is the reading, unless memory runs out.
abbrev pub Gives : {X Y : Type 0} → (X → Y) → Result X Stop → Option Y → Type 0
Gives view (Ok x) read = read ≡ Some (view x)
Gives view (Err stop) read = Fails stop read
