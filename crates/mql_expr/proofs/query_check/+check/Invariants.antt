use Rattle.std.proofs.Common.{◌≡◌, drop}
use Rattle.mql_expr.specs.Check.{faults_of, template_faults, first_fault}
use Rattle.mql_expr.specs.Tree.{trees_in, templates_in}
use Rattle.mql_expr.proofs.query_check.+check.Given as goal

abbrev pub invariant-check_args-loop-arg : goal.invariant-check_args-loop-arg
invariant-check_args-loop-arg l =
    first_fault (faults_of (trees_in l.args))
    ≡ first_fault (faults_of (trees_in (drop l.arg-index l.args)))

abbrev pub invariant-check_templates-loop-template : goal.invariant-check_templates-loop-template
invariant-check_templates-loop-template l =
    first_fault (template_faults (templates_in l.templates))
    ≡ first_fault (template_faults (templates_in (drop l.template-index l.templates)))
