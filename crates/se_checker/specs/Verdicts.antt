-- What checks find in a policy (after SETools' sechecker; docs/DIFFERENCES.md says where it differs). A check passes where it finds nothing.
use Rattle.std.specs.Prelude.{ℕ, Bool, true, false, ◌==◌, ◌&&◌, not, List, [], ◌∷◌, length, codes, Option, Some, None}
use Rattle.std.specs.List.{filter, list_any, range_with_len}
use Rattle.pol_fields.specs.declared.TableKind.TheVariants.{Classes}
use Rattle.pol_commons.specs.Permissions.{mask_has}
use Rattle.pol_symbols.specs.declared.Symbols.{Symbols}
use Rattle.pol_symbols.specs.PolicySymbols.{permission_value_in, value_in}
use Rattle.pol_file.specs.declared.Parts.{Parts}
use Rattle.pol_read.specs.declared.RuleKind.{RuleKind}
use Rattle.pol_read.specs.declared.RuleKind.TheVariants.{Allow}
use Rattle.pol_read.specs.declared.RulePart.{RulePart}
use Rattle.pol_read.specs.declared.RulePart.TheVariants.{Perms}
use Rattle.pol_read.specs.StoredRules.{StoredRule, stored_rules}
use Rattle.pol_expand.specs.PolicyMap.{expand}
use Rattle.pol_expand.specs.JoinedTypes.{rule_passes}
use Rattle.rule_order.specs.ListedOrder.{in_rule_order}
use Rattle.counted_rules.specs.CountedRules.{all_rules}
use Rattle.rule_grants.specs.Grants.{grants}
use Rattle.rule_grants.specs.Names.{file, execute}
use Rattle.check_list.specs.declared.CheckKind.{CheckKind}
use Rattle.check_list.specs.declared.CheckKind.TheVariants as kinds
use Rattle.check_list.specs.declared.CheckKey.TheVariants as keys
use Rattle.check_list.specs.Checklists.{Check, given, listed}
use Rattle.se_checker.specs.Members.{is_member, members}

-- ---- what is asked for

-- What is asked of an allow rule: the types of either end, if some are named, without those that are exempt, and its class and its
-- permissions.
pub record Asked : Type 0 where
  pub source : Option (List (List ℕ))
  pub exempt_source : List (List ℕ)
  pub target : Option (List (List ℕ))
  pub exempt_target : List (List ℕ)
  pub class : Option (List (List ℕ))
  pub perms : Option (List (List ℕ))

-- a key asks for the type; one that is not given asks nothing, and one whose names have no member asks for no type
abbrev pub asks_type : Parts → Option (List (List ℕ)) → ℕ → Bool
asks_type policy None type = true
asks_type policy (Some names) type = is_member policy names type

-- a look-up found a value that passes a test
abbrev pub found_passes : (ℕ → Bool) → Option ℕ → Bool
found_passes test None = false
found_passes test (Some value) = test value

abbrev pub asks_class : Symbols → Option (List (List ℕ)) → ℕ → Bool
asks_class symbols None class = true
asks_class symbols (Some names) class = list_any (λ name. found_passes (λ value. value == class) (value_in symbols Classes name)) names

-- the mask of a rule of a class has a permission that is asked for
abbrev pub asks_mask : Symbols → Option (List (List ℕ)) → ℕ → ℕ → Bool
asks_mask symbols None class mask = true
asks_mask symbols (Some names) class mask = list_any (λ name. found_passes (mask_has mask) (permission_value_in symbols class name)) names

-- the type is asked for and not exempt
abbrev pub is_wanted : Parts → Option (List (List ℕ)) → List (List ℕ) → ℕ → Bool
is_wanted policy asked exempt type = asks_type policy asked type && not (is_member policy exempt type)

-- one of the types that the end of a rule expands to is asked for and not exempt
abbrev pub has_wanted : Parts → Option (List (List ℕ)) → List (List ℕ) → ℕ → Bool
has_wanted policy asked exempt end = list_any (is_wanted policy asked exempt) (expand policy end)

-- the permissions that an allow rule gives
abbrev pub allow_mask : RuleKind → RulePart → Option ℕ
allow_mask Allow (Perms mask) = Some mask
allow_mask kind part = None

-- a rule of a class that gives these has the class and one of the permissions that are asked for
abbrev pub asks_given : Symbols → Asked → ℕ → Option ℕ → Bool
asks_given symbols asked class None = false
asks_given symbols asked class (Some mask) = asks_class symbols asked.class class && asks_mask symbols asked.perms class mask

-- an allow rule gives what is asked for, from a type to a type that are asked for and not exempt
abbrev pub is_asked : Parts → Asked → StoredRule → Bool
is_asked policy asked rule =
    (has_wanted policy asked.source asked.exempt_source rule.source && has_wanted policy asked.target asked.exempt_target rule.target)
    && asks_given policy.symbols asked rule.class (allow_mask rule.kind rule.part)

-- the numbers of all that do, rising
unfoldable pub rules_asked : Parts → Asked → List ℕ
rules_asked policy asked = filter (rule_passes policy (is_asked policy asked)) (range_with_len 0 (length (stored_rules policy)))

-- ---- assertions

abbrev pub asked_by : Check → Asked
asked_by check = record {
  source = given check keys.Source;
  exempt_source = listed check keys.ExemptSource;
  target = given check keys.Target;
  exempt_target = listed check keys.ExemptTarget;
  class = given check keys.Class;
  perms = given check keys.Perms;
}

-- `assert_te` finds the allow rules that give what it asks for, in the order in which rules are listed
abbrev pub rules_against : Parts → Check → List ℕ
rules_against policy check = in_rule_order policy (rules_asked policy (asked_by check))

-- ---- attributes

-- `empty_typeattr` finds the types that its attributes expand to, rising
abbrev pub attribute_types : Parts → Check → List ℕ
attribute_types policy check = members policy (listed check keys.Attr)

-- ---- files that are executed and written

unfoldable pub write : List ℕ
write = codes "write"

unfoldable pub append : List ℕ
append = codes "append"

-- a domain that is not exempt has one of some permissions of files of a type
unfoldable pub is_given : Parts → List (List ℕ) → List (List ℕ) → ℕ → Bool
is_given policy exempt names type =
    list_any (λ domain. not (is_member policy exempt domain) && list_any (grants (all_rules policy) domain type file) names) (range_with_len 1 policy.symbols.types.nprim)

-- files of a type that is not exempt are executed, and written or appended to
abbrev pub is_written_executable : Parts → Check → ℕ → Bool
is_written_executable policy check type =
    (is_given policy (listed check keys.ExemptExecDomain) (execute ∷ []) type && is_given policy (listed check keys.ExemptWriteDomain) (write ∷ append ∷ []) type)
    && not (is_member policy (listed check keys.ExemptFile) type)

-- `ro_execs` finds the types of such files, rising
unfoldable pub written_executables : Parts → Check → List ℕ
written_executables policy check = filter (is_written_executable policy check) (range_with_len 1 policy.symbols.types.nprim)

-- ---- verdicts

-- what a check finds: numbers of rules, or types
pub data Verdict : Type 0 where
  Rules : List ℕ → Verdict
  Types : List ℕ → Verdict

abbrev pub verdict_by : CheckKind → Parts → Check → Verdict
verdict_by kinds.AssertTe policy check = Rules (rules_against policy check)
verdict_by kinds.EmptyTypeattr policy check = Types (attribute_types policy check)
verdict_by kinds.RoExecs policy check = Types (written_executables policy check)

abbrev pub verdict_of : Parts → Check → Verdict
verdict_of policy check = verdict_by check.kind policy check
