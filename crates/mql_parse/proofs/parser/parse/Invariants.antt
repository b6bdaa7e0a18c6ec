use Rattle.std.specs.Prelude.{◌≡◌, length, take, Some}
use Rattle.vm_base.specs.Run.{run}
use Rattle.mql_lists.specs.Words.{words_of}
use Rattle.mql_parse.specs.Machine.{at, step, start}
use Rattle.mql_parse.specs.inner.Stack.{stack_of}
use Rattle.mql_parse.specs.inner.Views.{the_before, the_frames}
use Rattle.mql_parse.proofs.parser.parse.Given as goal

abbrev pub invariant-tokens : goal.invariant-tokens
invariant-tokens l =
    run (step (length l.text)) start (take l.token-index (words_of l.text l.tokens))
    ≡ Some (at (the_frames (stack_of l.stack)) (the_before l.last))
