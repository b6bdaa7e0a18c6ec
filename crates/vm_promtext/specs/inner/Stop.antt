-- What a step of the reader gives.
use Rattle.std.specs.Prelude.{◌≡◌, ℕ, Result, Ok, Err, ⊤}
use Rattle.std.specs.Result.{result_map_both}
use Rattle.vm_promtext.specs.declared.stop.Stop.{Stop}
use Rattle.vm_promtext.specs.declared.stop.Stop.TheVariants.{Memory, Broken}
use Rattle.vm_promtext.specs.declared.stop.Wrong.{Wrong}

-- what a step without memory gives, seen by view, with the number of bytes that are left at a fault
abbrev pub seen : {X Y : Type 0} → (X → Y) → Result X Wrong → Result Y ℕ
seen view = result_map_both view (λ wrong. wrong.left)

-- the reading where memory runs out says nothing
abbrev pub Fails : {Y : Type 0} → Stop → Result Y ℕ → Type 0
Fails Memory read = ⊤
Fails (Broken wrong) read = read ≡ Err wrong.left

-- What a step gives, seen by view, is the reading, unless memory runs out.
abbrev pub Gives : {X Y : Type 0} → (X → Y) → Result X Stop → Result Y ℕ → Type 0
Gives view (Ok x) read = read ≡ Ok (view x)
Gives view (Err stop) read = Fails stop read
