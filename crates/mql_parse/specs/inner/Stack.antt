-- What is open, the innermost first.
use Rattle.std.specs.Prelude.{List, reverse}
use Rattle.mql_parse.specs.declared.stack.Stack.{Stack}
use Rattle.mql_parse.specs.declared.state.Open.{Open}

-- the list of what is open, as contracts see a stack
unfoldable pub stack_of : Stack → List Open
stack_of s = reverse s.opens
