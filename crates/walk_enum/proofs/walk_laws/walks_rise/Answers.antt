use Rattle.walk_enum.specs.Walks.{successors_of, walks}
use Rattle.walk_enum.proofs.Ascending.{Ascends, Before, sorted_from_ascends, ascends_filter, ascends_range}
use Rattle.walk_enum.proofs.Along.{walks_ascend, first_of_all}
use Rattle.walk_enum.specs.Walks.{least_walks}
use Rattle.walk_enum.proofs.walk_laws.walks_rise.Goals as goal

pub returns : goal.returns
returns c edge size a b = sorted_from_ascends (least_walks edge size a b)
    (first_of_all (Ascends Before) (walks edge size a b) 0 size tt (λ k. walks_ascend (successors_of edge size) (λ d. ascends_filter (edge d) _ (ascends_range 1 size)) a b k))
