-- The values of the conditions of a policy's nodes, found once. It serves the code alone.
use Rattle.std.specs.Prelude.{◌≡◌, Bool, true, false, Option, Some, None, List, slice_get, ⊤}
use Rattle.pol_cursor.specs.References.{Placed}
use Rattle.pol_expr.specs.ConditionMeaning.{same_truth}
use Rattle.pol_conditionals.specs.declared.CondNodeRec.{CondNodeRec}
use Rattle.pol_read.specs.declared.Condition.{Condition}
use Rattle.counted_rules.specs.declared.node_values.NodeValues.{NodeValues}
use Rattle.counted_rules.specs.CountedRules.{node_values}

-- the branch of a value that was found is on
abbrev pub is_branch_of : Bool → Option Bool → Bool
is_branch_of branch None = false
is_branch_of branch (Some value) = same_truth value branch

-- the branch of a condition is on, by the values of the nodes; what stands under no condition is enabled
abbrev pub enables : List Bool → Option Condition → Bool
enables values None = true
enables values (Some condition) = is_branch_of condition.branch (slice_get values condition.node)

-- The values are those of the nodes' conditions, where there are values.
abbrev pub AreValuesOf : List (Placed CondNodeRec) → Option NodeValues → Type 0
AreValuesOf nodes None = ⊤
AreValuesOf nodes (Some values) = values.values.items ≡ node_values values.on nodes
