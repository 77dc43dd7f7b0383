-- Each access vector that is read has a part that goes with its kind.
use Rattle.std.proofs.Common.{◌≡◌, ℕ, Bool, true, false, cond, Option, Some, None, List, All, refl, sym, ap, subst, ◌∙◌}
use Rattle.std.specs.Prelude.{◌==◌, ◌||◌, ◌&&◌, not, nat_le, if◌then◌else◌}
use Rattle.std.proofs.lemmas.Bool.{eqb-true}
use Rattle.std.proofs.lemmas.Nat.{and_assoc}
use Rattle.pol_fields.specs.declared.Cause.{Cause}
use Rattle.pol_fields.specs.declared.Cause.TheVariants.{BadSpecified}
use Rattle.pol_fields.specs.declared.fields.TheConstants.{AV_SOURCE, AV_TARGET, AV_CLASS, AV_SPECIFIED, AV_XKIND, AV_DRIVER, AV_BITS, AV_DATA, AVTAB_NEL, CONDLIST_COUNT, CONDNODE_NTRUE, CONDNODE_NFALSE, ROLETRANS_COUNT, ROLEALLOW_COUNT, END_END}
use Rattle.pol_cursor.specs.Outcome.{Got, Reader}
use Rattle.pol_cursor.specs.Parts.{number, number_if, string, end_at, counted, records_at}
use Rattle.pol_cursor.specs.References.{placed}
use Rattle.pol_symtab.specs.Inner.Freshness.{Gives}
use Rattle.pol_symtab.proofs.FreshRecords.{Gives-part, Gives-done, Gives-number_if}
use Rattle.pol_symbols.specs.PolicySymbols.{symbols_at}
use Rattle.pol_expr.specs.ConditionRecord.{condition_at}
use Rattle.pol_avtab.specs.declared.AvKey.{AvKey}
use Rattle.pol_avtab.specs.declared.AvRec.{AvRec}
use Rattle.pol_avtab.specs.declared.AvPart.{AvPart}
use Rattle.pol_avtab.specs.declared.AvPart.TheVariants.{Data, Extended}
use Rattle.pol_conditionals.specs.declared.CondNodeRec.{CondNodeRec}
use Rattle.pol_avtab.specs.XPerms.{shown_mask, Numbers}
use Rattle.pol_avtab.specs.AvKeys.{kind_of}
use Rattle.pol_avtab.specs.AvRecord.{is_extended, is_kind, xkind_test, extended_at, data_at, part_at, av_at}
use Rattle.pol_avtab.specs.AvTables.{rule_at, after_rule, no_rules, placed_rules_at, table_at as rule_table_at}
use Rattle.pol_conditionals.specs.CondNodeList.{conditionals_at}
use Rattle.pol_conditionals.specs.CondNodeRecord.{condnode_at}
use Rattle.pol_trans.specs.RoleTransRecord.{role_trans_at}
use Rattle.pol_trans.specs.RoleAllowRecord.{role_allow_at}
use Rattle.pol_trans.specs.NameTransitions.{name_transitions_at}
use Rattle.pol_file.specs.declared.Parts.{Parts}
use Rattle.pol_file.specs.declared.RuleLists.{RuleLists}
use Rattle.pol_file.specs.PolicyParts.{front_at, rule_lists_at, label_lists_at, policy_at}
use Rattle.pol_file.proofs.ReadValues.{gives-others, gives-weaker, gives-placed, gives-list_of, gives-records_after}
use Rattle.pol_read.specs.declared.rule.RulePart.TheVariants as parts
use Rattle.pol_read.specs.StoredRules.{rule_kind, rule_part}
use Rattle.pol_read.specs.DeclaredRules.{goes_with}

-- ---- the kinds

-- what is true of each kind, one by one
module _ (P : ℕ → Type 0) (k : ℕ) where
  here : (n : ℕ) → P n → (k == n) ≡ true → P k
  here n p is = subst P (sym (eqb-true k n is)) p

  either : (a b : Bool) → (a || b) ≡ true → (a ≡ true → P k) → (b ≡ true → P k) → P k
  either true b e left right = left refl
  either false b e left right = right e

  and_right : (a b : Bool) → (a && b) ≡ true → b ≡ true
  and_right true b e = e
  and_right false b e = absurd cc

  pub each_kind : (version : ℕ) → P 0x1 → P 0x2 → P 0x4 → P 0x10 → P 0x20 → P 0x40 → P 0x100 → P 0x200 → P 0x400 → is_kind version k ≡ true → P k
  each_kind version a b c d e f g h i is =
      either _ _ is
      (λ is. either _ _ is
      (λ is. either _ _ is
      (λ is. either _ _ is
      (λ is. either _ _ is
      (λ is. either _ _ is (here 0x1 a) (here 0x2 b))
      (here 0x4 c))
      (here 0x10 d))
      (here 0x20 e))
      (here 0x40 f))
      (λ is. either _ _ (and_right (nat_le 30 version) _ is) (λ is. either _ _ is (here 0x100 g) (here 0x200 h)) (here 0x400 i))

-- a default, or the permissions that are shown
abbrev DataGoes : ℕ → ℕ → ℕ → Type 0
DataGoes mask shown k = is_extended k ≡ false → goes_with (rule_kind k) (if k == 0x10 || k == 0x20 || k == 0x40 then parts.Default mask else parts.Perms shown) ≡ true

abbrev NumbersGo : Numbers → ℕ → Type 0
NumbersGo numbers k = is_extended k ≡ true → goes_with (rule_kind k) (parts.Numbers numbers) ≡ true

data_goes : (mask shown version k : ℕ) → is_kind version k ≡ true → DataGoes mask shown k
data_goes mask shown version k is =
    each_kind (DataGoes mask shown) k version (λ e. refl) (λ e. refl) (λ e. refl) (λ e. refl) (λ e. refl) (λ e. refl) (λ e. absurd cc) (λ e. absurd cc) (λ e. absurd cc) is

numbers_go : (numbers : Numbers) (version k : ℕ) → is_kind version k ≡ true → NumbersGo numbers k
numbers_go numbers version k is =
    each_kind (NumbersGo numbers) k version (λ e. absurd cc) (λ e. absurd cc) (λ e. absurd cc) (λ e. absurd cc) (λ e. absurd cc) (λ e. absurd cc) (λ e. refl) (λ e. refl) (λ e. refl) is

-- The mark of the running system makes no rule extended.
extended_without_mark : (specified : ℕ) → is_extended specified ≡ is_extended (kind_of specified)
extended_without_mark specified = ap (λ (bits : ℕ). not (bits == 0)) (sym (and_assoc 0x700 specified 0x7FFF))

-- the part that has to be there
abbrev PartIs : Bool → AvPart → Type 0
PartIs extended (Data mask) = extended ≡ false
PartIs extended (Extended xkind driver bits) = extended ≡ true

abbrev pub HasRightPart : AvRec → Type 0
HasRightPart av = goes_with (rule_kind (kind_of av.specified)) (rule_part av.specified av.part) ≡ true

right_part : (version specified : ℕ) (part : AvPart) → is_kind version (kind_of specified) ≡ true → PartIs (is_extended specified) part → goes_with (rule_kind (kind_of specified)) (rule_part specified part) ≡ true
right_part version specified (Data mask) is there = data_goes mask (shown_mask specified mask) version (kind_of specified) is (sym (extended_without_mark specified) ∙ there)
right_part version specified (Extended xkind driver bits) is there = numbers_go _ version (kind_of specified) is (sym (extended_without_mark specified) ∙ there)

tested_kind : (b : Bool) (x : Option Cause) → cond b x (Some BadSpecified) ≡ None → b ≡ true
tested_kind true x e = refl
tested_kind false x e = absurd cc

-- ---- its reader

extended_is : Gives extended_at (PartIs true)
unfolding extended_at
extended_is =
    gives-others (number_if AV_XKIND 1 xkind_test) λ xkind.
    gives-others (number AV_DRIVER 1) λ driver.
    gives-others (string AV_BITS 32) λ bits.
    Gives-done _ (Extended xkind driver bits) refl

data_is : Gives data_at (PartIs false)
unfolding data_at
data_is =
    gives-others (number AV_DATA 4) λ mask.
    Gives-done _ (Data mask) refl

part_is : (extended : Bool) → Gives (part_at extended) (PartIs extended)
unfolding part_at
part_is true = extended_is
part_is false = data_is

av_is_right : (version : ℕ) (earlier : Option (List AvKey)) → Gives (av_at version earlier) HasRightPart
unfolding av_at
av_is_right version earlier =
    gives-others (number AV_SOURCE 2) λ source.
    gives-others (number AV_TARGET 2) λ target.
    gives-others (number AV_CLASS 2) λ class.
    Gives-part (Gives-number_if AV_SPECIFIED 2) λ specified tested.
    Gives-part (part_is (is_extended specified)) λ part is.
    Gives-done HasRightPart (record { source = source; target = target; class = class; specified = specified; part = part }) (right_part version specified part (tested_kind _ _ tested) is)

-- ---- the lists of them

abbrev pub HaveRightParts : CondNodeRec → Type 0
HaveRightParts node = All HasRightPart node.true_rules × All HasRightPart node.false_rules

records_are : {A : Type 0} {r : Reader A} {P : A → Type 0} → Gives r P → (n : ℕ) → Gives (records_at r n) (All P)
unfolding records_at
records_are {A} {r} {P} h n = gives-weaker (gives-list_of {S = Unit {0}} (λ left context. r) (λ context x. context) (λ context. Unit {0}) P (λ left context known. h) (λ context x known. tt) n tt tt) (λ xs are. are.each)

table_is_right : (version : ℕ) → Gives (rule_table_at version) (All (λ av. HasRightPart av.value))
unfolding rule_table_at placed_rules_at
table_is_right version =
    gives-others (number AVTAB_NEL 4) λ n.
    gives-weaker (gives-records_after rule_at after_rule (λ context. Unit {0}) HasRightPart (λ context known. av_is_right context.version (Some context.keys)) (λ context av known. tt) n (no_rules version) tt) (λ rules are. are.each)

condnode_is_right : (version : ℕ) → Gives (condnode_at version) HaveRightParts
unfolding condnode_at
condnode_is_right version =
    gives-others condition_at λ condition.
    Gives-part (gives-others (number CONDNODE_NTRUE 4) λ n. records_are (av_is_right version None) n) λ true_rules true_are.
    Gives-part (gives-others (number CONDNODE_NFALSE 4) λ n. records_are (av_is_right version None) n) λ false_rules false_are.
    Gives-done HaveRightParts _ (true_are, false_are)

conditionals_are_right : (version : ℕ) → Gives (conditionals_at version) (All (λ node. HaveRightParts node.value))
unfolding conditionals_at
conditionals_are_right version =
    gives-others (number CONDLIST_COUNT 4) λ n.
    records_are (gives-placed (condnode_is_right version)) n

-- ---- the policy

pub record HaveParts (rules : RuleLists) : Type 0 where
  pub table : All (λ av. HasRightPart av.value) rules.table
  pub conditionals : All (λ node. HaveRightParts node.value) rules.conditionals

rule_lists_are_right : (version : ℕ) → Gives (rule_lists_at version) HaveParts
unfolding rule_lists_at
rule_lists_are_right version =
    Gives-part (table_is_right version) λ table table-is.
    Gives-part (conditionals_are_right version) λ conditionals conditionals-are.
    gives-others (counted ROLETRANS_COUNT (records_at (placed role_trans_at))) λ role_trans.
    gives-others (counted ROLEALLOW_COUNT (records_at (placed role_allow_at))) λ role_allows.
    gives-others (name_transitions_at version) λ name_trans.
    Gives-done HaveParts _ (record { table = table-is; conditionals = conditionals-are })

policy_is_right : Gives policy_at (λ policy. HaveParts policy.rules)
unfolding policy_at
policy_is_right =
    gives-others front_at λ front.
    gives-others (symbols_at front.header.version) λ symbols.
    Gives-part (rule_lists_are_right front.header.version) λ rules right.
    gives-others (label_lists_at front.header.version symbols.types.nprim) λ labels.
    gives-others (end_at END_END) λ ended.
    Gives-done _ _ right

pub parts_read : (bytes : List ℕ) (policy : Parts) (next : ℕ) → policy_at bytes 0 ≡ Got policy next → HaveParts policy.rules
parts_read bytes policy next e = policy_is_right.each bytes 0 policy next e
