-- The stored rules of a policy, in file order: those of the access vector table, those under conditions, role transitions, role
-- allows, file-name transitions and range transitions (the kinds are those of SETools' manual page of sesearch).
use Rattle.std.specs.Prelude.{ℕ, ◌+◌, ◌^◌, nat_lt, Bool, true, false, ◌==◌, ◌&&◌, Option, Some, None, List, [], ◌∷◌, ◌++◌, length, map, is_some, option_map, if◌then◌else◌}
use Rattle.std.specs.List.{flat_map, filter, range_with_len}
use Rattle.pol_cursor.specs.References.{Placed}
use Rattle.pol_fields.specs.declared.TableKind.TheVariants.{Types}
use Rattle.pol_bitmap.specs.Nodes.{bits_of}
use Rattle.pol_symbols.specs.PolicySymbols.{name_in}
use Rattle.pol_symbols.specs.declared.Symbols.{Symbols}
use Rattle.pol_avtab.specs.declared.codes.TheConstants.{AVTAB_ALLOWED, AVTAB_AUDITALLOW, AVTAB_AUDITDENY, AVTAB_TRANSITION, AVTAB_MEMBER, AVTAB_CHANGE, AVTAB_XPERMS_ALLOWED, AVTAB_XPERMS_AUDITALLOW}
use Rattle.pol_avtab.specs.declared.AvRec.{AvRec}
use Rattle.pol_avtab.specs.declared.AvPart.{AvPart}
use Rattle.pol_avtab.specs.declared.AvPart.TheVariants.{Data, Extended}
use Rattle.pol_conditionals.specs.declared.CondNodeRec.{CondNodeRec}
use Rattle.pol_avtab.specs.AvKeys.{kind_of}
use Rattle.pol_avtab.specs.AvRecord.{is_default}
use Rattle.pol_avtab.specs.XPerms.{shown_mask}
use Rattle.pol_conditionals.specs.CondNodeRecord.{rules_of_branch as access_vectors_of}
use Rattle.pol_trans.specs.declared.RoleTransRec.{RoleTransRec}
use Rattle.pol_trans.specs.declared.RoleAllowRec.{RoleAllowRec}
use Rattle.pol_trans.specs.declared.NameTransRec.{NameTransRec}
use Rattle.pol_trans.specs.declared.NameDatumRec.{NameDatumRec}
use Rattle.pol_trans.specs.declared.NameGroupRec.{NameGroupRec}
use Rattle.pol_trans.specs.declared.RangeTransRec.{RangeTransRec}
use Rattle.pol_trans.specs.declared.NameTrans.{NameTrans}
use Rattle.pol_trans.specs.declared.NameTrans.TheVariants.{Entries, Groups}
use Rattle.pol_trans.specs.RangeTransRecord.{range_of}
use Rattle.pol_read.specs.declared.rule.RuleKind.{RuleKind}
use Rattle.pol_read.specs.declared.rule.RuleKind.TheVariants.{Allow, Auditallow, Dontaudit, AllowXperm, AuditallowXperm, DontauditXperm, TypeTransition, TypeChange, TypeMember, RoleAllow, RoleTransition, RangeTransition}
use Rattle.pol_read.specs.declared.rule.RulePart.{RulePart}
use Rattle.pol_read.specs.declared.rule.RulePart.TheVariants.{Perms, Numbers, Default, Range, Nothing}
use Rattle.pol_read.specs.declared.rule.Condition.{Condition}
use Rattle.pol_read.specs.declared.rule.Rule.{Rule}
use Rattle.pol_read.specs.declared.rule.RuleEnds.{RuleEnds}
use Rattle.pol_file.specs.declared.Parts.{Parts}

-- a rule, with the bytes of its name
pub record StoredRule : Type 0 where
  pub kind : RuleKind
  pub source : ℕ
  pub target : ℕ
  pub class : ℕ
  pub part : RulePart
  pub name : Option (List ℕ)
  pub condition : Option Condition

-- a rule of the code
abbrev pub stored : Rule → StoredRule
stored rule = record { kind = rule.kind; source = rule.source; target = rule.target; class = rule.class; part = rule.part; name = option_map (λ name. name.now) rule.name; condition = rule.condition }

-- its ends, with its kind and its class
abbrev pub ends_of : StoredRule → RuleEnds
ends_of rule = record { kind = rule.kind; source = rule.source; target = rule.target; class = rule.class }

-- ---- access vectors

-- what an access vector specifies, without the mark of the running system
abbrev pub rule_kind : ℕ → RuleKind
rule_kind kind =
    if kind == AVTAB_ALLOWED then Allow else
    if kind == AVTAB_AUDITALLOW then Auditallow else
    if kind == AVTAB_AUDITDENY then Dontaudit else
    if kind == AVTAB_TRANSITION then TypeTransition else
    if kind == AVTAB_MEMBER then TypeMember else
    if kind == AVTAB_CHANGE then TypeChange else
    if kind == AVTAB_XPERMS_ALLOWED then AllowXperm else
    if kind == AVTAB_XPERMS_AUDITALLOW then AuditallowXperm else
    DontauditXperm

-- its default type, or the permissions that it shows
abbrev pub plain_part : ℕ → ℕ → RulePart
plain_part specified mask = if is_default specified then Default mask else Perms (shown_mask specified mask)

-- the same, or its ioctl numbers
abbrev pub rule_part : ℕ → AvPart → RulePart
rule_part specified (Data mask) = plain_part specified mask
rule_part specified (Extended xkind driver bits) = Numbers (record { xkind = xkind; driver = driver; bits = bits })

abbrev pub av_rule : Option Condition → Placed AvRec → StoredRule
av_rule condition av = record {
  kind = rule_kind (kind_of av.value.specified);
  source = av.value.source;
  target = av.value.target;
  class = av.value.class;
  part = rule_part av.value.specified av.value.part;
  name = None;
  condition = condition;
}

-- those of the node of a number that hold where its condition is true, or where it is false
abbrev pub rules_of_branch : List (Placed CondNodeRec) → ℕ → Bool → List StoredRule
rules_of_branch nodes i branch = map (av_rule (Some (record { node = i; branch = branch }))) (access_vectors_of nodes i branch)

-- those of the node: the rules that hold where its condition is true, and then those where it is false
abbrev pub rules_of_node : List (Placed CondNodeRec) → ℕ → List StoredRule
rules_of_node nodes i = rules_of_branch nodes i true ++ rules_of_branch nodes i false

abbrev pub rules_of_nodes : List (Placed CondNodeRec) → List StoredRule
rules_of_nodes nodes = flat_map (rules_of_node nodes) (range_with_len 0 (length nodes))

-- ---- transitions and role allows

abbrev pub role_trans_rule : Placed RoleTransRec → StoredRule
role_trans_rule trans = record {
  kind = RoleTransition;
  source = trans.value.role;
  target = trans.value.type_value;
  class = trans.value.class;
  part = Default trans.value.newrole;
  name = None;
  condition = None;
}

abbrev pub role_allow_rule : Placed RoleAllowRec → StoredRule
role_allow_rule allow = record {
  kind = RoleAllow;
  source = allow.value.role;
  target = allow.value.newrole;
  class = 0;
  part = Nothing;
  name = None;
  condition = None;
}

abbrev pub range_trans_rule : Placed RangeTransRec → StoredRule
range_trans_rule trans = record {
  kind = RangeTransition;
  source = trans.value.source;
  target = trans.value.target;
  class = trans.value.class;
  part = Range (range_of trans);
  name = None;
  condition = None;
}

abbrev pub name_rule : List ℕ → ℕ → ℕ → ℕ → ℕ → StoredRule
name_rule name source target class default = record {
  kind = TypeTransition;
  source = source;
  target = target;
  class = class;
  part = Default default;
  name = Some name;
  condition = None;
}

abbrev pub name_trans_rule : Placed NameTransRec → StoredRule
name_trans_rule trans = name_rule trans.value.name trans.value.source trans.value.target trans.value.class trans.value.default

-- a type value, which has 32 bits, that a primary record declares
abbrev pub is_declared_type : Symbols → ℕ → Bool
is_declared_type symbols value = nat_lt value (2 ^ 32) && is_some (name_in symbols Types value)

-- the declared values among those that bits stand for, where bit v - 1 stands for the value v
abbrev pub declared_values : Symbols → List ℕ → List ℕ
declared_values symbols bits = filter (is_declared_type symbols) (map (λ bit. bit + 1) bits)

-- those among the sources of a datum
abbrev pub declared_sources : Symbols → NameDatumRec → List ℕ
declared_sources symbols datum = declared_values symbols (bits_of datum.sources)

-- one rule for each of them, rising
abbrev pub rules_of_datum : Symbols → NameGroupRec → NameDatumRec → List StoredRule
rules_of_datum symbols group datum = map (λ source. name_rule group.name source group.target group.class datum.default) (declared_sources symbols datum)

abbrev pub rules_of_group : Symbols → Placed NameGroupRec → List StoredRule
rules_of_group symbols group = flat_map (rules_of_datum symbols group.value) group.value.datums

abbrev pub name_rules : Symbols → NameTrans → List StoredRule
name_rules symbols (Entries entries) = map name_trans_rule entries
name_rules symbols (Groups groups) = flat_map (rules_of_group symbols) groups

-- ---- all of them

-- section by section
abbrev pub rule_sections : Parts → List (List StoredRule)
rule_sections policy =
    map (av_rule None) policy.rules.table
    ∷ rules_of_nodes policy.rules.conditionals
    ∷ map role_trans_rule policy.rules.role_trans
    ∷ map role_allow_rule policy.rules.role_allows
    ∷ name_rules policy.symbols policy.rules.name_trans
    ∷ map range_trans_rule policy.labels.range_trans
    ∷ []

abbrev pub stored_rules : Parts → List StoredRule
stored_rules policy = flat_map (λ rules. rules) (rule_sections policy)
