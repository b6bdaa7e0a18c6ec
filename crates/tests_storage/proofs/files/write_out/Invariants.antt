use Rattle.vm_outside.specs.Files.{content}
use Rattle.vm_part.specs.Files.{HasWritten}
use Rattle.tests_storage.proofs.files.write_out.Given as goal

-- what the writer wrote so far stands in its file
abbrev pub invariant-loop-step : goal.invariant-loop-step
invariant-loop-step l = HasWritten l.writer (content l.disk.files)
