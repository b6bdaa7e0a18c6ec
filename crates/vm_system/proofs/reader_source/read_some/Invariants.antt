use Rattle.std.specs.Io.KnownBytes.{Keeps}
use Rattle.vm_system.proofs.reader_source.read_some.Given as goal

-- a read that a signal interrupted took nothing
abbrev pub invariant-tries : goal.invariant-tries
invariant-tries g l = Keeps (g.R.Read.remaining l.initial.reader) (g.R.Read.remaining l.reader)
