-- Record 19: a conditional node, which is a condition and the rules that hold where it does and where it does not (libsepol's
-- cond_read_node).
use Rattle.std.specs.Prelude.{ℕ, ◌+◌, ◌*◌, ◌≤◌, Bool, true, false, Option, Some, None, List, [], ◌++◌, length, slice_get, if◌then◌else◌}
use Rattle.std.specs.List.{flat_map}
use Rattle.pol_fields.specs.declared.fields.TheConstants.{CONDNODE_NTRUE, CONDNODE_NFALSE}
use Rattle.pol_cursor.specs.Outcome.{Reader, ◌>>=◌, done}
use Rattle.pol_cursor.specs.Parts.{num, counted, records_at, spell_counted, CountedFits}
use Rattle.pol_cursor.specs.References.{Placed, Reference, values_of}
use Rattle.pol_cursor.specs.NestedRecords.{nested_in, nested_end, HasNested, placed_from, length_together}
use Rattle.pol_expr.specs.declared.condition_rec.ConditionRec.{ConditionRec}
use Rattle.pol_expr.specs.ConditionRecord.{condition_at, spell_condition, ConditionFits, condition_in, condition_size, HasCondition, condition_references}
use Rattle.pol_avtab.specs.declared.AvRec.{AvRec}
use Rattle.pol_conditionals.specs.declared.condnode_rec.CondNodeRec.{CondNodeRec}
use Rattle.pol_avtab.specs.AvRecord.{av_at, spell_av, AvFits, av_in, av_length, av_end, HasAv, av_references}

-- ---- reading and spelling

-- so many rules under a condition
abbrev pub conditional_rules_at : ℕ → ℕ → Reader (List AvRec)
conditional_rules_at version n = records_at (av_at version None) n

unfoldable pub condnode_at : ℕ → Reader CondNodeRec
condnode_at version = do
  condition ← condition_at
  true_rules ← counted CONDNODE_NTRUE (conditional_rules_at version)
  false_rules ← counted CONDNODE_NFALSE (conditional_rules_at version)
  done (record { condition = condition; true_rules = true_rules; false_rules = false_rules })

abbrev pub spell_condnode : CondNodeRec → List ℕ
spell_condnode node = spell_condition node.condition ++ spell_counted spell_av node.true_rules ++ spell_counted spell_av node.false_rules

-- the parts of a node fit their fields
pub record CondNodeFits (node : CondNodeRec) : Type 0 where
  pub condition : ConditionFits node.condition
  pub true_rules : CountedFits AvFits node.true_rules
  pub false_rules : CountedFits AvFits node.false_rules

-- ---- the node that stands at a place

-- the rules behind their count, which stands at a place
abbrev pub rules_in : List ℕ → ℕ → List (Placed AvRec)
rules_in bytes place = nested_in av_in av_end bytes (place + 4) (num bytes place 4)

-- the place behind them
abbrev pub rules_end : List ℕ → ℕ → ℕ
rules_end bytes place = nested_end av_end bytes (place + 4) (num bytes place 4)

abbrev pub HasRules : List ℕ → ℕ → Type 0
HasRules bytes place = (place + 4 ≤ length bytes) × HasNested HasAv av_end bytes (place + 4) (num bytes place 4)

-- where the counts of the two lists stand
abbrev pub true_count_place : List ℕ → ℕ → ℕ
true_count_place bytes place = place + condition_size bytes place

abbrev pub false_count_place : List ℕ → ℕ → ℕ
false_count_place bytes place = rules_end bytes (true_count_place bytes place)

abbrev pub condnode_in : List ℕ → ℕ → CondNodeRec
condnode_in bytes place = record {
  condition = condition_in bytes place;
  true_rules = values_of (rules_in bytes (true_count_place bytes place));
  false_rules = values_of (rules_in bytes (false_count_place bytes place));
}

-- the place behind the node there
abbrev pub condnode_end : List ℕ → ℕ → ℕ
condnode_end bytes place = rules_end bytes (false_count_place bytes place)

-- a node stands there, in a buffer of a policy's size
abbrev pub HasCondNode : List ℕ → ℕ → Type 0
HasCondNode bytes place = HasCondition bytes place × HasRules bytes (true_count_place bytes place) × HasRules bytes (false_count_place bytes place)

-- ---- its parts, with their places

-- how many bytes a rule takes
abbrev pub rule_length : AvRec → ℕ
rule_length av = av_length av.specified

abbrev pub node_condition : Placed CondNodeRec → Placed ConditionRec
node_condition node = record { place = node.place; value = node.value.condition }

-- where its lists stand, each behind its count
abbrev pub true_place : Placed CondNodeRec → ℕ
true_place node = node.place + 12 + 8 * length node.value.condition.items

abbrev pub false_place : Placed CondNodeRec → ℕ
false_place node = true_place node + length_together rule_length node.value.true_rules + 4

-- the rules that hold where its condition is true, or where it is false
abbrev pub branch_rules : Placed CondNodeRec → Bool → List (Placed AvRec)
branch_rules node branch = if branch then placed_from rule_length (true_place node) node.value.true_rules else placed_from rule_length (false_place node) node.value.false_rules

-- those of the node of that number
abbrev pub rules_of_branch : List (Placed CondNodeRec) → ℕ → Bool → List (Placed AvRec)
rules_of_branch nodes i branch = rules_if (slice_get nodes i) branch
  where
    rules_if : Option (Placed CondNodeRec) → Bool → List (Placed AvRec)
    rules_if None branch = []
    rules_if (Some node) branch = branch_rules node branch

-- ---- what it names

-- the booleans of its condition, and then what its rules name
abbrev pub condnode_references : Placed CondNodeRec → List Reference
condnode_references node = condition_references (node_condition node) ++ flat_map av_references (branch_rules node true) ++ flat_map av_references (branch_rules node false)
