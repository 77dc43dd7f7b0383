-- How the class, the default and the condition of a rule meet a criterion (SETools' manual page of sesearch).
use Rattle.std.specs.Prelude.{ℕ, Bool, false, ◌&&◌, nat_eq, Option, Some, None, List, [], slice_get, if◌then◌else◌}
use Rattle.std.specs.List.{filter_map, list_any, list_all}
use Rattle.pol_cursor.specs.References.{Placed}
use Rattle.pol_fields.specs.declared.TableKind.{TableKind}
use Rattle.pol_fields.specs.declared.TableKind.TheVariants.{Classes, Booleans}
use Rattle.pol_symbols.specs.PolicySymbols.{value_in}
use Rattle.pol_symbols.specs.declared.Symbols.{Symbols}
use Rattle.pol_expr.specs.ConditionMeaning.{booleans_in}
use Rattle.pol_conditionals.specs.declared.CondNodeRec.{CondNodeRec}
use Rattle.pol_read.specs.declared.RuleKind.{RuleKind}
use Rattle.pol_read.specs.declared.RuleKind.TheVariants.{RoleAllow}
use Rattle.pol_read.specs.declared.RulePart.{RulePart}
use Rattle.pol_read.specs.declared.RulePart.TheVariants.{Default}
use Rattle.pol_read.specs.declared.Condition.{Condition}
use Rattle.pol_read.specs.RuleKinds.{default_table}
use Rattle.pol_file.specs.declared.Parts.{Parts}
use Rattle.named_values.specs.Named.{is_named}
use Rattle.named_values.specs.Found.{is_found}
use Rattle.rule_criteria.specs.Elements.{elements_of}
use Rattle.rule_criteria.specs.Modes.{is_pattern}
use Rattle.rule_criteria.specs.declared.Criterion.{Criterion}
use Rattle.rule_criteria.specs.declared.Mode.{Mode}
use Rattle.rule_criteria.specs.declared.Mode.TheVariants.{Equal}
use Rattle.rule_query.specs.Ends.{is_meant}

-- a value is one of those that are listed, or its name has the pattern
abbrev pub is_listed : Symbols → TableKind → Criterion → ℕ → Bool
is_listed symbols table criterion value = if is_pattern criterion.mode then is_found symbols table criterion.text value else is_named symbols table (elements_of criterion.text) value

-- ---- classes

-- a role allow has no class
abbrev pub meets_class : Symbols → Criterion → RuleKind → ℕ → Bool
meets_class symbols criterion RoleAllow class = false
meets_class symbols criterion other class = is_listed symbols Classes criterion class

-- ---- defaults

-- The default of a rule is a type, or the new role of a role transition. Other rules have none.
abbrev pub meets_default : Symbols → Criterion → RuleKind → RulePart → Bool
meets_default symbols criterion kind (Default value) = is_meant symbols (default_table kind) criterion value
meets_default symbols criterion kind other = false

-- ---- conditions

-- the values of the booleans that a text lists
abbrev pub listed_booleans : Symbols → List ℕ → List ℕ
listed_booleans symbols text = filter_map (value_in symbols Booleans) (elements_of text)

-- The booleans of a condition and those asked: they are equal, or they share one.
abbrev pub compare_booleans : Symbols → Criterion → Mode → List ℕ → Bool
compare_booleans symbols criterion Equal booleans = list_all (is_listed symbols Booleans criterion) booleans && list_all (λ boolean. list_any (nat_eq boolean) booleans) (listed_booleans symbols criterion.text)
compare_booleans symbols criterion other booleans = list_any (is_listed symbols Booleans criterion) booleans

-- the booleans of a conditional node
abbrev pub node_booleans : Option (Placed CondNodeRec) → List ℕ
node_booleans None = []
node_booleans (Some node) = booleans_in node.value.condition.items

abbrev pub meets_node : Parts → Criterion → ℕ → Bool
meets_node policy criterion node = compare_booleans policy.symbols criterion criterion.mode (node_booleans (slice_get policy.rules.conditionals node))

-- a rule under no condition has no booleans
abbrev pub meets_condition : Parts → Criterion → Option Condition → Bool
meets_condition policy criterion None = false
meets_condition policy criterion (Some condition) = meets_node policy criterion condition.node
