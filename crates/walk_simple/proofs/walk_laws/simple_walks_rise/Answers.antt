use Rattle.std.proofs.Common.{[]}
use Rattle.walk_enum.specs.Walks.{successors_of}
use Rattle.walk_enum.proofs.Ascending.{sorted_from_ascends, ascends_filter, ascends_range}
use Rattle.walk_simple.specs.SimpleWalks.{simple_walks}
use Rattle.walk_simple.proofs.Walking.{simple_ascend}
use Rattle.walk_simple.proofs.walk_laws.simple_walks_rise.Goals as goal

pub returns : goal.returns
returns c edge size a b most = sorted_from_ascends (simple_walks edge size a b most) (simple_ascend (successors_of edge size) (λ d. ascends_filter (edge d) _ (ascends_range 1 size)) [] a b most)
