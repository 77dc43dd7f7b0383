-- What a query of criteria is: of the rules that name what the policy declares, as each stored rule does, those pass it that meet the
-- criteria.
use Rattle.std.specs.Prelude.{◌≡◌, ℕ, Option, Some, None, List}
use Rattle.pol_fields.specs.declared.TableKind.TheVariants.{Types}
use Rattle.pol_bitmap.specs.declared.Node.{Node}
use Rattle.pol_bitmap.specs.Nodes.{has_bit}
use Rattle.pol_file.specs.declared.Parts.{Parts}
use Rattle.pol_read.specs.DeclaredRules.{IsDeclaredIn, IsDeclaredRule}
use Rattle.pol_read.specs.StoredRules.{StoredRule}
use Rattle.rule_criteria.specs.declared.Criteria.{Criteria}
use Rattle.rule_criteria.specs.declared.Criterion.{Criterion}
use Rattle.rule_query.specs.declared.query.Query.{Query}
use Rattle.rule_query.specs.Ends.{meets_type}
use Rattle.rule_query.specs.Meeting.{meets_rule}
use Rattle.rule_query.specs.QueryTests.{passes, source_types, target_types}

-- Where a criterion of an end is given there is a set, and of the types and attributes that the policy declares it has those that meet it.
abbrev pub AreTypesOf : Parts → Option Criterion → Option (List Node) → Type 0
AreTypesOf policy None None = Unit {0}
AreTypesOf policy None (Some set) = ⊥
AreTypesOf policy (Some criterion) None = ⊥
AreTypesOf policy (Some criterion) (Some set) = (value : ℕ) → IsDeclaredIn policy.symbols Types value → has_bit set value ≡ meets_type policy criterion value

-- A rule passes the query exactly where it meets all that is asked. The query has the types that the criteria of the ends ask for.
pub record IsQueryOf (policy : Parts) (criteria : Criteria) (query : Query) : Type 0 where
  pub tells : (rule : StoredRule) → IsDeclaredRule policy rule → passes policy.symbols query rule ≡ meets_rule policy criteria rule
  pub sources : AreTypesOf policy criteria.source (source_types query)
  pub targets : AreTypesOf policy criteria.target (target_types query)
