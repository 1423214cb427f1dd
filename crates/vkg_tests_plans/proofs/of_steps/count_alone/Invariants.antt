use Rattle.vkg_tests_plans.proofs.of_steps.count_alone.Given as goal

abbrev pub ghosts-count : goal.ghosts-count
ghosts-count a = record { name = a.blank.name; parts = a.blank.parts }
