-- What the words of a command line ask for, as the program holds it.
use Rattle.std.specs.Prelude.{◌<◌, ◌^◌, ⊤}
use Rattle.vm_lines.specs.declared.fault.LineFault.{LineFault}
use Rattle.vm_lines.specs.declared.fault.LineFault.TheVariants as lines
use Rattle.vm_top.specs.declared.fault.Fault.{Fault}
use Rattle.vm_top.specs.declared.fault.Fault.TheVariants.{Input, InputTooLong, Memory}
use Rattle.vm_top.specs.Words.{Task, last, replay}
use Rattle.vm_top.specs.declared.words.Task.{Task as TaskOf}
use Rattle.vm_top.specs.declared.words.Task.TheVariants.{Last, Replay}

abbrev pub task_of : TaskOf → Task
task_of (Last name time) = last name.now time
task_of Replay = replay

-- its time is at most 2^48 - 1
abbrev pub IsSmall : TaskOf → Type 0
IsSmall (Last name time) = time < 2 ^ 48
IsSmall Replay = ⊤

-- a fault of the reader of lines
abbrev pub fault_of_lines : LineFault → Fault
fault_of_lines lines.Input = Input
fault_of_lines lines.InputTooLong = InputTooLong
fault_of_lines lines.Memory = Memory
