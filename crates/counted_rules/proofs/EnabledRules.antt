-- The rules that are enabled, by values of conditions that were found.
use Rattle.std.proofs.Common.{◌≡◌, ◌↔◌, ℕ, ◌+◌, ◌≤◌, Bool, true, false, Option, Some, None, List, [], ◌∷◌, ◌++◌, length, map, take, slice_get, option_map, IsTrue, refl, sym, ap, subst, ◌∙◌}
use Rattle.std.proofs.Math.Bool.{beq}
use Rattle.std.proofs.NetLemmas.Options.{map_some}
use Rattle.std.proofs.lemmas.List.{map_push, take_all}
use Rattle.std.proofs.lemmas.Option.{slice_get-map}
use Rattle.pol_cursor.specs.References.{Placed}
use Rattle.pol_symtab.proofs.ListPlaces.{take_then}
use Rattle.pol_expr.specs.declared.condition_rec.ConditionRec.{ConditionRec}
use Rattle.pol_expr.specs.ConditionMeaning.{same_truth}
use Rattle.pol_expr.specs.ConditionRecord.{IsCondition}
use Rattle.pol_conditionals.specs.declared.CondNodeRec.{CondNodeRec}
use Rattle.pol_conditionals.specs.CondNodeRecord.{node_condition}
use Rattle.pol_file.specs.declared.Parts.{Parts}
use Rattle.pol_read.specs.declared.Condition.{Condition}
use Rattle.pol_read.specs.StoredRules.{StoredRule}
use Rattle.bool_state.specs.BooleanStates.{Booleans, HasValue, condition_value}
use Rattle.bool_state.proofs.ConditionValues.{has_value, value_decides}
use Rattle.counted_rules.specs.declared.node_values.NodeValues.{NodeValues}
use Rattle.counted_rules.specs.CountedRules.{counts, counts_under, is_branch_on, is_enabled, node_value, node_values, rules_under}
use Rattle.counted_rules.specs.Inner.NodeTables.{AreValuesOf, enables, is_branch_of}

-- ---- the values, node by node

pub values_none : (on : Booleans) → node_values on [] ≡ []
unfolding node_values
values_none on = refl

-- the values of the nodes so far, and of one more
pub values_next : (on : Booleans) (nodes : List (Placed CondNodeRec)) (i : ℕ) (condition : Placed ConditionRec) (value : Bool) (out : List Bool) → option_map node_condition (slice_get nodes i) ≡ Some condition → value ≡ condition_value on condition.value.items → out ≡ node_values on (take i nodes) → out ++ value ∷ [] ≡ node_values on (take (i + 1) nodes)
unfolding node_values
values_next on nodes i condition value out at is sofar =
    map_some node_condition (slice_get nodes i) condition at λ node there same.
    ap (λ (values : List Bool). values ++ value ∷ []) sofar
    ∙ ap (λ (v : Bool). map (node_value on) (take i nodes) ++ v ∷ []) (is ∙ ap (λ (c : Placed ConditionRec). condition_value on c.value.items) (sym same))
    ∙ sym (ap (map (node_value on)) (take_then nodes i node there) ∙ map_push (node_value on) (take i nodes) node)

pub values_end : (on : Booleans) (nodes : List (Placed CondNodeRec)) (i : ℕ) (out : List Bool) → length nodes ≤ i → out ≡ node_values on (take i nodes) → out ≡ node_values on nodes
values_end on nodes i out le h = h ∙ ap (node_values on) (take_all i nodes le)

-- ---- by the values

pub same_is : (v w : Bool) → beq v w ≡ same_truth v w
same_is true true = refl
same_is true false = refl
same_is false true = refl
same_is false false = refl

branch_is : (on : Booleans) (branch : Bool) (o : Option (Placed CondNodeRec)) → is_branch_of branch (option_map (node_value on) o) ≡ is_branch_on on branch o
branch_is on branch None = refl
branch_is on branch (Some node) = refl

enabled_is : (on : Booleans) (nodes : List (Placed CondNodeRec)) (condition : Option Condition) → enables (node_values on nodes) condition ≡ is_enabled nodes on condition
unfolding is_enabled node_values
enabled_is on nodes None = refl
enabled_is on nodes (Some condition) =
    ap (is_branch_of condition.branch) (slice_get-map (node_value on) nodes condition.node) ∙ branch_is on condition.branch (slice_get nodes condition.node)

-- where there are no values all rules count
pub all_count : (nodes : List (Placed CondNodeRec)) (values : Option NodeValues) (condition : Option Condition) → values ≡ None → true ≡ counts_under nodes (option_map (λ (v : NodeValues). v.on) values) condition
all_count nodes values condition is = sym (ap (λ (o : Option NodeValues). counts_under nodes (option_map (λ (v : NodeValues). v.on) o) condition) is)

-- and where there are, those that they enable
pub enabled_count : (nodes : List (Placed CondNodeRec)) (values : Option NodeValues) (found : NodeValues) (condition : Option Condition) (answer : Bool) → AreValuesOf nodes values → values ≡ Some found → answer ≡ enables found.values.items condition → answer ≡ counts_under nodes (option_map (λ (v : NodeValues). v.on) values) condition
enabled_count nodes values found condition answer are is says =
    let own = subst (AreValuesOf nodes) is are in
    says ∙ ap (λ (items : List Bool). enables items condition) own ∙ enabled_is found.on nodes condition
    ∙ sym (ap (λ (o : Option NodeValues). counts_under nodes (option_map (λ (v : NodeValues). v.on) o) condition) is)

-- ---- by the tree

pub enabled_by_tree : (policy : Parts) (on : Booleans) (rule : StoredRule) (condition : Condition) (node : Placed CondNodeRec) → rule.condition ≡ Some condition → slice_get policy.rules.conditionals condition.node ≡ Some node → IsCondition node.value.condition.items
    → IsTrue (counts (rules_under policy on) rule) ↔ HasValue on node.value.condition.items condition.branch
unfolding is_enabled
enabled_by_tree policy on rule condition node under at is =
    let items = node.value.condition.items in
    let same : counts (rules_under policy on) rule ≡ beq (condition_value on items) condition.branch =
    ap (is_enabled policy.rules.conditionals on) under ∙ ap (is_branch_on on condition.branch) at ∙ sym (same_is (condition_value on items) condition.branch) in
    subst (λ (test : Bool). IsTrue test ↔ HasValue on items condition.branch) (sym same) (value_decides on items (condition_value on items) condition.branch (has_value on items is))

pub enabled_free : (policy : Parts) (on : Booleans) (rule : StoredRule) → rule.condition ≡ None → counts (rules_under policy on) rule ≡ true
unfolding is_enabled
enabled_free policy on rule none = ap (is_enabled policy.rules.conditionals on) none
