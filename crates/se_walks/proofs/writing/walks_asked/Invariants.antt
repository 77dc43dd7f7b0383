use Rattle.se_walks.proofs.writing.walks_asked.Given as goal

abbrev pub ghosts-shortest : goal.ghosts-shortest
ghosts-shortest g a = record { name = a.blank.name; parts = a.blank.parts }

abbrev pub ghosts-simple : goal.ghosts-simple
ghosts-simple g a = record { name = a.blank.name; parts = a.blank.parts }
