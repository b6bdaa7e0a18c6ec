-- Runs whose questions have a time of at most 2^48 - 1 ms.
use Rattle.std.specs.Prelude.{◌<◌, ◌^◌, List}
use Rattle.std.specs.List.{AllByRecursion}
use Rattle.vm_machine.specs.declared.question.Question.{Question}
use Rattle.vm_machine.specs.declared.run.Run.{Run}

abbrev pub AreInRange : List (Run Question) → Type 0
AreInRange runs = AllByRecursion (λ run. run.question.time < 2 ^ 48) runs
