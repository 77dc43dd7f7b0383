-- Which rules of a policy count: all of them, or those that are enabled where exactly some booleans are true. A rule under a condition is
-- enabled where the condition's value is that of its branch (the kernel's evaluate_cond_node), and any other rule always.
use Rattle.std.specs.Prelude.{Bool, true, false, Option, Some, None, List, map, slice_get}
use Rattle.pol_cursor.specs.References.{Placed}
use Rattle.pol_expr.specs.ConditionMeaning.{same_truth}
use Rattle.pol_conditionals.specs.declared.CondNodeRec.{CondNodeRec}
use Rattle.pol_file.specs.declared.Parts.{Parts}
use Rattle.pol_read.specs.declared.Condition.{Condition}
use Rattle.pol_read.specs.StoredRules.{StoredRule}
use Rattle.bool_state.specs.BooleanStates.{Booleans, condition_value}

-- A policy, and the booleans that are true where only its enabled rules count.
pub record Counted : Type 0 where
  pub policy : Parts
  pub on : Option Booleans

-- all rules of a policy, whatever conditions they stand under
abbrev pub all_rules : Parts → Counted
all_rules policy = record { policy = policy; on = None }

-- its enabled rules, where exactly the booleans of a set are true
abbrev pub rules_under : Parts → Booleans → Counted
rules_under policy on = record { policy = policy; on = Some on }

-- the value of a node's condition
abbrev pub node_value : Booleans → Placed CondNodeRec → Bool
node_value on node = condition_value on node.value.condition.items

-- the rules of a branch of a node are enabled, where there is such a node
abbrev pub is_branch_on : Booleans → Bool → Option (Placed CondNodeRec) → Bool
is_branch_on on branch None = false
is_branch_on on branch (Some node) = same_truth (node_value on node) branch

-- a rule that stands under a condition of some nodes, or under none, is enabled
unfoldable pub is_enabled : List (Placed CondNodeRec) → Booleans → Option Condition → Bool
is_enabled nodes on None = true
is_enabled nodes on (Some condition) = is_branch_on on condition.branch (slice_get nodes condition.node)

-- it counts
abbrev pub counts_under : List (Placed CondNodeRec) → Option Booleans → Option Condition → Bool
counts_under nodes None condition = true
counts_under nodes (Some on) condition = is_enabled nodes on condition

-- a rule counts
abbrev pub counts : Counted → StoredRule → Bool
counts rules rule = counts_under rules.policy.rules.conditionals rules.on rule.condition

-- the values of the conditions of some nodes, in their order
unfoldable pub node_values : Booleans → List (Placed CondNodeRec) → List Bool
node_values on nodes = map (node_value on) nodes
