use Rattle.walk_simple.proofs.table.Table.+advance.Given as goal

abbrev pub decreases-advance : goal.decreases-advance
decreases-advance l = l.left
