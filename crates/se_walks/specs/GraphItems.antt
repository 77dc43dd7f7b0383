-- What is listed of a graph of types: the edges of a source, or walks from it to a target.
use Rattle.std.specs.Prelude.{ℕ, ◌≤◌, Bool, ◌||◌, List, [], Option, Some, None, IfSome, if◌then◌else◌}
use Rattle.std.specs.Option.{ForSome}
use Rattle.pol_file.specs.declared.Parts.{Parts}
use Rattle.walk_enum.specs.Walks.{successors_of, least_walks}
use Rattle.walk_simple.specs.SimpleWalks.{simple_walks}
use Rattle.se_walks.specs.Numbered.{numbered}
use Rattle.se_walks.specs.WalkTexts.{EdgeWords, end_item, walk_item}
use Rattle.se_walks.specs.declared.graph_items.Ends.{Ends}

-- the edges out of a type, or into it in the reverse, where the graph is turned round
unfoldable pub edge_items : EdgeWords → (ℕ → ℕ → Bool) → Parts → Bool → ℕ → List (List ℕ)
edge_items words edge policy reverse source = numbered (end_item words source reverse) 1 (successors_of edge policy.symbols.types.nprim source)

-- all shortest walks from a node to a node or, where a number is given, all walks of at most so many steps that have no node twice
abbrev pub walks_asked : (ℕ → ℕ → Bool) → ℕ → Option ℕ → ℕ → ℕ → List (List ℕ)
walks_asked edge size None a b = least_walks edge size a b
walks_asked edge size (Some most) a b = simple_walks edge size a b most

-- such walks from a type to a type, none of which may be excluded
unfoldable pub walk_items : EdgeWords → (ℕ → ℕ → Bool) → Parts → (ℕ → Bool) → Option ℕ → ℕ → ℕ → List (List ℕ)
walk_items words edge policy excluded all source target =
    if excluded source || excluded target then [] else numbered (walk_item words) 1 (walks_asked edge policy.symbols.types.nprim all source target)

-- walks to a target, if there is one
abbrev pub items_to : EdgeWords → (ℕ → ℕ → Bool) → Parts → (ℕ → Bool) → Option ℕ → Bool → ℕ → Option ℕ → List (List ℕ)
items_to words edge policy excluded all reverse source None = edge_items words edge policy reverse source
items_to words edge policy excluded all reverse source (Some target) = walk_items words edge policy excluded all source target

-- the items between two ends
abbrev pub items_between : EdgeWords → (ℕ → ℕ → Bool) → Parts → (ℕ → Bool) → Ends → List (List ℕ)
items_between words edge policy excluded ends = items_to words edge policy excluded ends.all ends.reverse ends.source ends.target

-- the items between the ends that words name, if each of them names a type
abbrev pub items_from : EdgeWords → (ℕ → ℕ → Bool) → Parts → (ℕ → Bool) → Option Ends → List (List ℕ)
items_from words edge policy excluded None = []
items_from words edge policy excluded (Some ends) = items_between words edge policy excluded ends

-- the ends are among so many nodes, and the number of steps is one that may be asked for
pub record AreWithin (nodes : ℕ) (ends : Ends) : Type 0 where
  pub source_low : 1 ≤ ends.source
  pub source_high : ends.source ≤ nodes
  pub target_low : IfSome ends.target (λ target. 1 ≤ target)
  pub target_high : IfSome ends.target (λ target. target ≤ nodes)
  pub steps_low : ForSome ends.all (λ steps. 1 ≤ steps)
  pub steps_high : ForSome ends.all (λ steps. steps ≤ 99)
