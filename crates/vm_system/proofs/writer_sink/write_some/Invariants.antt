use Rattle.std.specs.Io.KnownBytes.{Keeps}
use Rattle.vm_system.proofs.writer_sink.write_some.Given as goal

-- a write that a signal interrupted put nothing
abbrev pub invariant-tries : goal.invariant-tries
invariant-tries g l = Keeps (g.W.Write.contents l.initial.writer) (g.W.Write.contents l.writer)
