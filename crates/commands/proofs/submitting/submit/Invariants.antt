use Rattle.commands.proofs.submitting.submit.Given as goal

abbrev pub ghosts-submit_counting : goal.ghosts-submit_counting
ghosts-submit_counting g a = record { name = a.blank.name; parts = a.blank.parts }
