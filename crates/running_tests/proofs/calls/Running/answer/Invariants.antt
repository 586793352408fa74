use Rattle.running_tests.proofs.calls.Running.answer.Given as goal

abbrev pub ghosts-ready_counted : goal.ghosts-ready_counted
ghosts-ready_counted g a = record { name = a.blank.name; parts = a.blank.parts }
