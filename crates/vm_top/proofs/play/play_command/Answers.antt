use Rattle.std.proofs.Common.{[], refl, sym, subst}
use Rattle.vm_top.specs.Replay.{Asks, question_of}
use Rattle.vm_top.specs.inner.Playing.{PlaysCommand}
use Rattle.vm_top.proofs.PlayLaws.{passes_none}
use Rattle.vm_top.proofs.TakenLaws.{over_none}
use Rattle.vm_top.proofs.play.play_command.Goals as goal

pub returns-in-Query-clause-plays : goal.returns-in-Query-clause-plays
returns-in-Query-clause-plays g c = λ text prints.
    let before = c.args.machine.now in
    let now = c.begin_query.new.machine in
    let lines = c.args.lines.now in
    let left = g.S.Source.left c.args.input.now in
    let run = c.in-Query.run' in
    subst (λ command. PlaysCommand command before now lines lines left left text)
    (sym c.in-Query.is) (record {
      body = [];
      has = refl;
      does = subst (λ expression. Asks run (question_of c.in-Query.time expression) before now text)
          c.as_str.ensures (c.begin_query.ensures.answers text prints);
      passes = passes_none lines left;
    })

-- no line was read

pub returns-in-Query-clause-over : goal.returns-in-Query-clause-over
returns-in-Query-clause-over g c = over_none c.args.lines.now (g.S.Source.left c.args.input.now)

pub returns-in-Run-clause-over : goal.returns-in-Run-clause-over
returns-in-Run-clause-over g c = over_none c.args.lines.now (g.S.Source.left c.args.input.now)

pub returns-in-End-clause-over : goal.returns-in-End-clause-over
returns-in-End-clause-over g c = over_none c.args.lines.now (g.S.Source.left c.args.input.now)

pub returns-in-Close-clause-over : goal.returns-in-Close-clause-over
returns-in-Close-clause-over g c = over_none c.args.lines.now (g.S.Source.left c.args.input.now)
