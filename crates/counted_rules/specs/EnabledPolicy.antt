-- The policy that has only the rules of a policy that are enabled where exactly some booleans are true.
use Rattle.std.specs.Prelude.{Bool, [], map, if◌then◌else◌}
use Rattle.pol_cursor.specs.References.{Placed}
use Rattle.pol_conditionals.specs.declared.CondNodeRec.{CondNodeRec}
use Rattle.pol_file.specs.declared.Parts.{Parts}
use Rattle.bool_state.specs.BooleanStates.{Booleans}
use Rattle.counted_rules.specs.CountedRules.{node_value}

-- a node with the rules of one branch alone, which is that of a value
abbrev pub one_branch : Bool → Placed CondNodeRec → Placed CondNodeRec
one_branch value node = record {
  place = node.place;
  value = record {
    condition = node.value.condition;
    true_rules = if value then node.value.true_rules else [];
    false_rules = if value then [] else node.value.false_rules;
  };
}

-- a node with its enabled rules alone
abbrev pub enabled_node : Booleans → Placed CondNodeRec → Placed CondNodeRec
enabled_node on node = one_branch (node_value on node) node

-- The policy with its enabled rules alone. No node is left out, so that nodes keep their numbers.
abbrev pub enabled_policy : Parts → Booleans → Parts
enabled_policy policy on = record policy { rules = record policy.rules { conditionals = map (enabled_node on) policy.rules.conditionals } }
