use Rattle.tests_base.proofs.base.steps.Given as goal

abbrev pub ghosts-holds_from : goal.ghosts-holds_from
ghosts-holds_from g a = record { name = a.blank.name; parts = a.blank.parts }
