-- The order in which rules are listed (this project's own): by kind, then by the names of source, target and class, then by number.
use Rattle.std.specs.Prelude.{◌≡◌, ℕ, ◌<◌, true, Option, Some, List, slice_get, option_map}
use Rattle.std.specs.declared.cmp.Ordering.{Ordering}
use Rattle.std.specs.Option.{option_cmp}
use Rattle.std.specs.Ordering.{is_le, nat_cmp, ordering_then}
use Rattle.std.specs.Cmp.Lexicographic.{slice_cmp}
use Rattle.pol_fields.specs.declared.TableKind.TheVariants.{Classes}
use Rattle.pol_symbols.specs.PolicySymbols.{name_in, rank_in}
use Rattle.pol_symbols.specs.declared.Symbols.{Symbols}
use Rattle.pol_read.specs.declared.rule_order.RuleKey.{RuleKey}
use Rattle.pol_file.specs.declared.Parts.{Parts}
use Rattle.pol_read.specs.RuleKinds.{kind_number, source_table, target_table}
use Rattle.pol_read.specs.StoredRules.{StoredRule, stored_rules}

-- ---- the order

-- what a rule is listed by: the names, none where no primary record declares the value, as that of the class of a role allow
pub record RuleNames : Type 0 where
  pub kind : ℕ
  pub source : Option (List ℕ)
  pub target : Option (List ℕ)
  pub class : Option (List ℕ)
  pub number : ℕ

-- that of a rule and its number
abbrev pub rule_names : Symbols → ℕ → StoredRule → RuleNames
rule_names symbols number rule = record {
  kind = kind_number rule.kind;
  source = name_in symbols (source_table rule.kind) rule.source;
  target = name_in symbols (target_table rule.kind) rule.target;
  class = name_in symbols Classes rule.class;
  number = number;
}

-- names compare by their bytes, and none comes before all names
abbrev pub name_cmp : Option (List ℕ) → Option (List ℕ) → Ordering
name_cmp = option_cmp (slice_cmp nat_cmp)

-- the first part that differs decides
abbrev pub names_cmp : RuleNames → RuleNames → Ordering
names_cmp a b =
    ordering_then (nat_cmp a.kind b.kind)
    (ordering_then (name_cmp a.source b.source)
    (ordering_then (name_cmp a.target b.target)
    (ordering_then (name_cmp a.class b.class)
    (nat_cmp a.number b.number))))

-- that of the stored rule of a number, from 0 on
abbrev pub rule_names_of : Parts → ℕ → Option RuleNames
rule_names_of policy number = option_map (rule_names policy.symbols number) (slice_get (stored_rules policy) number)

-- Numbers of rules rise in that order: of any two, the first is not listed after the second. A number of no rule comes first.
abbrev pub AreInRuleOrder : Parts → List ℕ → Type 0
AreInRuleOrder policy numbers =
    (i j m n : ℕ) → i < j → slice_get numbers i ≡ Some m → slice_get numbers j ≡ Some n
    → is_le (option_cmp names_cmp (rule_names_of policy m) (rule_names_of policy n)) ≡ true

-- ---- the same order by ranks

-- a rank in place of each name
abbrev pub rule_key : Symbols → ℕ → StoredRule → RuleKey
rule_key symbols number rule = record {
  kind = kind_number rule.kind;
  source = rank_in symbols (source_table rule.kind) rule.source;
  target = rank_in symbols (target_table rule.kind) rule.target;
  class = rank_in symbols Classes rule.class;
  number = number;
}

abbrev pub rule_key_of : Parts → ℕ → Option RuleKey
rule_key_of policy number = option_map (rule_key policy.symbols number) (slice_get (stored_rules policy) number)

-- the first part that differs decides
abbrev pub keys_cmp : RuleKey → RuleKey → Ordering
keys_cmp a b =
    ordering_then (nat_cmp a.kind b.kind)
    (ordering_then (option_cmp nat_cmp a.source b.source)
    (ordering_then (option_cmp nat_cmp a.target b.target)
    (ordering_then (option_cmp nat_cmp a.class b.class)
    (nat_cmp a.number b.number))))
