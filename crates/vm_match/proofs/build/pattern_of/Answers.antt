use Rattle.std.proofs.Common.{Err, ap}
use Rattle.vm_match.proofs.BuildLaws.{is_bad, is_reached}
use Rattle.vm_match.proofs.build.pattern_of.Goals as goal

pub returns-in_ok-text-in-Err-Syntax-clause-answer :
    goal.returns-in_ok-text-in-Err-Syntax-clause-answer
returns-in_ok-text-in-Err-Syntax-clause-answer g c =
    is_bad g.P.Patterns.IsPattern _ _ _ c.in_ok-text-in-Err-Syntax.ensures c.as_str.ensures
    (c.in-Err-Syntax.ensures.syntax (ap Err c.in-Err-Syntax.field-0-is))

pub returns-in_ok-text-in-Err-Refused-clause-answer :
    goal.returns-in_ok-text-in-Err-Refused-clause-answer
returns-in_ok-text-in-Err-Refused-clause-answer g c = (
  is_reached g.P.Patterns.IsPattern _ _ c.in_ok-text-in-Err-Refused.ensures,
  c.in-Err-Refused.ensures.cause (ap Err c.in-Err-Refused.field-0-is),
)
