-- The graph of transitions from domain to domain.
use Rattle.std.specs.Prelude.{ℕ, Bool, not, ◌&&◌, List}
use Rattle.pol_bitmap.specs.declared.Node.{Node}
use Rattle.pol_bitmap.specs.Nodes.{has_bit}
use Rattle.counted_rules.specs.CountedRules.{Counted}
use Rattle.walk_enum.specs.Turned.{turned}
use Rattle.dom_trans.specs.Transitions.{is_transition}

-- What a caller sees: the rules of a policy that count, the types that a step neither begins nor ends at, and whether the edges are turned round.
pub record Domains : Type 0 where
  pub rules : Counted
  pub excluded : List Node
  pub reverse : Bool

-- as many nodes as type values
abbrev pub domain_count : Domains → ℕ
domain_count domains = domains.rules.policy.symbols.types.nprim

-- a transition between two types that are not excluded; entry types may be
unfoldable pub is_step : Domains → ℕ → ℕ → Bool
is_step domains a b = is_transition domains.rules a b && not (has_bit domains.excluded a) && not (has_bit domains.excluded b)

-- an edge is a step, or a step back in the graph that is turned round
abbrev pub domain_edge : Domains → ℕ → ℕ → Bool
domain_edge domains = turned domains.reverse (is_step domains)
