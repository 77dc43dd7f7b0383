use Rattle.se_walks.proofs.writing.successors_of.Given as goal

abbrev pub ghosts-counted_ends : goal.ghosts-counted_ends
ghosts-counted_ends g a = record { name = a.blank.name; parts = a.blank.parts }
