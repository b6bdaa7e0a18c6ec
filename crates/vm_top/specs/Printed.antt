-- What the commands of a script print.
use Rattle.std.specs.Prelude.{ℕ, List, [], ◌++◌, codes, decimal, Result, Ok, Err}
use Rattle.vm_machine.specs.Machine.{Answer, accepted, begun, was_read, complete, values, closed}
use Rattle.vm_machine.specs.declared.question.Evaluated.{Evaluated}
use Rattle.vm_machine.specs.declared.refusal.Refusal.{Refusal}
use Rattle.vm_machine.specs.declared.refusal.Refusal.TheVariants.{PendingFull, ViewsFull, UnknownRun, RunTaken, Memory}
use Rattle.vm_top.specs.Reply.{reply}
use Rattle.vm_top.specs.declared.query_fault.QueryFault.{QueryFault}
use Rattle.vm_top.specs.declared.query_fault.QueryFault.TheVariants.{BadRange, NotBuilt}

-- the text of a refusal
abbrev pub refusal_text : Refusal → List ℕ
refusal_text PendingFull = codes "pending full"
refusal_text ViewsFull = codes "views full"
refusal_text (UnknownRun run) = codes "unknown run " ++ decimal run
refusal_text (RunTaken run) = codes "run taken " ++ decimal run
refusal_text Memory = codes "out of memory"

-- the text of what is wrong with a query
abbrev pub query_text : QueryFault → List ℕ
query_text BadRange = codes "bad range"
query_text NotBuilt = codes "not built"

-- the line of a command that was refused
abbrev pub refused_line : Refusal → List ℕ
refused_line why = codes "refused " ++ refusal_text why ++ codes "\n"

-- the line of a query that asks for nothing
abbrev pub bad_query_line : QueryFault → List ℕ
bad_query_line fault = codes "refused " ++ query_text fault ++ codes "\n"

-- the line of a body that was imported
abbrev pub accepted_line : ℕ → ℕ → ℕ → List ℕ
accepted_line batches rows skipped =
    codes "accepted " ++ decimal batches ++ codes " batches " ++ decimal rows ++ codes " rows "
    ++ decimal skipped ++ codes " skipped\n"

-- the line of a machine's answer to a command on a run; of a batch nothing is said, but of its body
abbrev pub printed : ℕ → Result (Answer Evaluated) Refusal → List ℕ
printed run (Err why) = refused_line why
printed run (Ok accepted) = []
printed run (Ok begun) = codes "run " ++ decimal run ++ codes "\n"
printed run (Ok was_read) = codes "read\n"
printed run (Ok complete) = codes "complete\n"
printed run (Ok (values evaluated)) = reply evaluated.time evaluated.values
printed run (Ok closed) = codes "closed\n"
