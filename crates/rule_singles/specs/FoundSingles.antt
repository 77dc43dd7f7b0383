-- The rules between single types that a search lists of the rules that meet it: each source of a rule with each target, where a type
-- that a criterion does not ask for is left out (this project's own).
use Rattle.std.specs.Prelude.{ℕ, Bool, true, ◌||◌, Option, Some, None, List, [], ◌∷◌, map, slice_get}
use Rattle.std.specs.List.{filter}
use Rattle.pol_fields.specs.declared.TableKind.{TableKind}
use Rattle.pol_fields.specs.declared.TableKind.TheVariants.{Types}
use Rattle.pol_file.specs.declared.Parts.{Parts}
use Rattle.pol_expand.specs.PolicyMap.{expand}
use Rattle.set_products.specs.declared.Single.{Single}
use Rattle.set_products.specs.Members.{Product, members}
use Rattle.pol_read.specs.RuleKinds.{source_table, target_table}
use Rattle.pol_read.specs.StoredRules.{StoredRule, stored_rules}
use Rattle.rule_criteria.specs.declared.Criteria.{Criteria}
use Rattle.rule_criteria.specs.declared.Criterion.{Criterion}
use Rattle.rule_criteria.specs.Modes.{is_direct}
use Rattle.rule_query.specs.Ends.{meets_type}

-- A type of an expansion is listed where a rule that names the type itself would meet the criterion of that end. Without a criterion, and
-- with one that compares the stored end alone, each is.
abbrev pub is_listed_end : Parts → Option Criterion → ℕ → Bool
is_listed_end policy None type = true
is_listed_end policy (Some criterion) type = is_direct criterion.mode || meets_type policy criterion type

-- what an end of a table stands for, rising: a type or an attribute for the listed types that it expands to, and a role for itself
abbrev pub listed_ends : Parts → Option Criterion → TableKind → ℕ → List ℕ
listed_ends policy criterion Types value = filter (is_listed_end policy criterion) (expand policy value)
listed_ends policy criterion other value = value ∷ []

-- the sources and the targets of the rule of a number, and none where there is no rule
abbrev pub ends_found : Parts → Criteria → ℕ → Option StoredRule → Product
ends_found policy criteria number None = record { rule = number; sources = []; targets = [] }
ends_found policy criteria number (Some rule) = record {
  rule = number;
  sources = listed_ends policy criteria.source (source_table rule.kind) rule.source;
  targets = listed_ends policy criteria.target (target_table rule.kind) rule.target;
}

unfoldable pub ends_of_rule : Parts → Criteria → ℕ → Product
ends_of_rule policy criteria number = ends_found policy criteria number (slice_get (stored_rules policy) number)

-- all that are listed of the rules of these numbers: rule by rule, each source with each target
abbrev pub singles_listed : Parts → Criteria → List ℕ → List Single
singles_listed policy criteria numbers = members (map (ends_of_rule policy criteria) numbers)
