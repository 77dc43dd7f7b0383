-- Which stored rules of a policy meet what is asked: those of a kind that is asked that meet each criterion that is given. A rule without
-- the part that a criterion is about does not meet it (SETools' manual page of sesearch).
use Rattle.std.specs.Prelude.{ℕ, Bool, false, ◌&&◌, Option, Some, None, List, length, slice_get}
use Rattle.std.specs.List.{filter, list_all, range_with_len}
use Rattle.pol_file.specs.declared.Parts.{Parts}
use Rattle.pol_read.specs.RuleKinds.{source_table, target_table}
use Rattle.pol_read.specs.StoredRules.{StoredRule, stored_rules}
use Rattle.rule_criteria.specs.declared.Criteria.{Criteria}
use Rattle.rule_criteria.specs.declared.Criterion.{Criterion}
use Rattle.rule_query.specs.declared.given.Aspect.{Aspect}
use Rattle.rule_query.specs.declared.given.Aspect.TheVariants.{Source, Target, Class, Permissions, Numbers, Default, Booleans}
use Rattle.rule_query.specs.GivenCriteria.{Given, in_word_order}
use Rattle.rule_query.specs.Ends.{meets_end}
use Rattle.rule_tests.specs.AskedKinds.{is_kind_asked}
use Rattle.rule_tests.specs.AskedPermissions.{meets_permissions}
use Rattle.rule_tests.specs.AskedNumbers.{meets_numbers}
use Rattle.rule_query.specs.Listed.{meets_class, meets_default, meets_condition}

-- ---- rules

-- a rule meets a criterion that is about one part of it
abbrev pub meets_aspect : Parts → StoredRule → Criterion → Aspect → Bool
meets_aspect policy rule criterion Source = meets_end policy criterion (source_table rule.kind) rule.source
meets_aspect policy rule criterion Target = meets_end policy criterion (target_table rule.kind) rule.target
meets_aspect policy rule criterion Class = meets_class policy.symbols criterion rule.kind rule.class
meets_aspect policy rule criterion Permissions = meets_permissions policy.symbols criterion rule.class rule.part
meets_aspect policy rule criterion Numbers = meets_numbers criterion rule.part
meets_aspect policy rule criterion Default = meets_default policy.symbols criterion rule.kind rule.part
meets_aspect policy rule criterion Booleans = meets_condition policy criterion rule.condition

abbrev pub meets_given : Parts → StoredRule → Given → Bool
meets_given policy rule given = meets_aspect policy rule given.criterion given.aspect

-- a rule meets what is asked
unfoldable pub meets_rule : Parts → Criteria → StoredRule → Bool
meets_rule policy criteria rule = is_kind_asked criteria.kinds rule.kind && list_all (meets_given policy rule) (in_word_order criteria)

abbrev pub meets_found : Parts → Criteria → Option StoredRule → Bool
meets_found policy criteria None = false
meets_found policy criteria (Some rule) = meets_rule policy criteria rule

-- the stored rule of a number does
unfoldable pub meets : Parts → Criteria → ℕ → Bool
meets policy criteria n = meets_found policy criteria (slice_get (stored_rules policy) n)

-- the numbers of all rules that meet it, in file order
abbrev pub meeting : Parts → Criteria → List ℕ
meeting policy criteria = filter (meets policy criteria) (range_with_len 0 (length (stored_rules policy)))
