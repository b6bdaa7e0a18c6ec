use Rattle.tests_base.proofs.selectors.is_right.Given as goal

abbrev pub ghosts-selects : goal.ghosts-selects
ghosts-selects a = record { name = a.blank.name; parts = a.blank.parts }
