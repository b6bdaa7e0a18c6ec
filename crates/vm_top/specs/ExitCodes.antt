-- The numbers with which the program ends.
use Rattle.std.specs.Prelude.{ℕ}
use Rattle.vm_top.specs.declared.status.Status.{Status}
use Rattle.vm_top.specs.declared.status.Status.TheVariants as status

abbrev pub exit_code_of : Status → ℕ
exit_code_of status.Ok = 0
exit_code_of status.Refused = 1
exit_code_of status.Usage = 2
exit_code_of status.Memory = 3
exit_code_of status.DiskFault = 4
exit_code_of status.NetFault = 5
exit_code_of status.InputFault = 6
exit_code_of status.OutputFault = 7
exit_code_of status.Damaged = 8
exit_code_of status.OtherInterval = 9
exit_code_of status.Spent = 10
