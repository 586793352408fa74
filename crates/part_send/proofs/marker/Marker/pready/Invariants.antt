use Rattle.part_send.proofs.marker.Marker.pready.Given as goal

abbrev pub ghosts-pready_from : goal.ghosts-pready_from
ghosts-pready_from g a = record { name = a.blank.name; parts = a.blank.parts }
