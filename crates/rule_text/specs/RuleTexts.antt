-- The text of a stored rule, as sesearch of SETools prints it (the words and the order of the policy language; what the manual page
-- leaves open is this project's profile).
use Rattle.std.specs.Prelude.{ℕ, Option, Some, None, List, [], ◌++◌, codes, slice_get, option_map}
use Rattle.pol_fields.specs.declared.TableKind.TheVariants.{Classes}
use Rattle.pol_cursor.specs.References.{name_of}
use Rattle.pol_mls.specs.MlsTexts.{range_text}
use Rattle.pol_symbols.specs.PolicySymbols.{name_in, permissions_in_class}
use Rattle.pol_symbols.specs.declared.Symbols.{Symbols}
use Rattle.pol_texts.specs.NameTexts.{name_text}
use Rattle.pol_file.specs.declared.Parts.{Parts}
use Rattle.pol_read.specs.declared.rule.RuleKind.{RuleKind}
use Rattle.pol_read.specs.declared.rule.RuleKind.TheVariants.{Allow, Auditallow, Dontaudit, AllowXperm, AuditallowXperm, DontauditXperm, TypeTransition, TypeChange, TypeMember, RoleAllow, RoleTransition, RangeTransition}
use Rattle.pol_read.specs.declared.rule.RulePart.{RulePart}
use Rattle.pol_read.specs.declared.rule.RulePart.TheVariants.{Perms, Numbers, Default, Range, Nothing}
use Rattle.pol_read.specs.StoredRules.{StoredRule, stored_rules}
use Rattle.pol_read.specs.RuleKinds.{source_table, target_table, default_table}
use Rattle.info_lines.specs.PermissionSets.{permissions_text}
use Rattle.rule_text.specs.IoctlTexts.{ioctl_text}
use Rattle.rule_text.specs.ConditionTexts.{condition_text}

-- ---- its parts

-- the first word
unfoldable pub keyword : RuleKind → List ℕ
keyword Allow = codes "allow"
keyword Auditallow = codes "auditallow"
keyword Dontaudit = codes "dontaudit"
keyword AllowXperm = codes "allowxperm"
keyword AuditallowXperm = codes "auditallowxperm"
keyword DontauditXperm = codes "dontauditxperm"
keyword TypeTransition = codes "type_transition"
keyword TypeChange = codes "type_change"
keyword TypeMember = codes "type_member"
keyword RoleAllow = codes "allow"
keyword RoleTransition = codes "role_transition"
keyword RangeTransition = codes "range_transition"

-- the two ends by their names, each from the table of the rule's kind
unfoldable pub ends_text : Symbols → RuleKind → ℕ → ℕ → List ℕ
ends_text symbols kind source target = name_of (name_in symbols) (source_table kind) source ++ codes " " ++ name_of (name_in symbols) (target_table kind) target

-- the class behind a colon; a role allow has none
unfoldable pub class_text : Symbols → RuleKind → ℕ → List ℕ
class_text symbols RoleAllow class = []
class_text symbols other class = codes ":" ++ name_of (name_in symbols) Classes class

-- what the rule gives: permissions of its class, ioctl numbers, a type or a role, or a range
unfoldable pub part_text : Symbols → RuleKind → ℕ → RulePart → List ℕ
part_text symbols kind class (Perms mask) = codes " " ++ permissions_text mask (permissions_in_class symbols class)
part_text symbols kind class (Numbers numbers) = codes " ioctl " ++ ioctl_text numbers
part_text symbols kind class (Default value) = codes " " ++ name_of (name_in symbols) (default_table kind) value
part_text symbols kind class (Range range) = codes " " ++ range_text (name_in symbols) range.value
part_text symbols kind class Nothing = []

-- the name of the new object in quotation marks, where it has one
unfoldable pub file_name_text : Option (List ℕ) → List ℕ
file_name_text None = []
file_name_text (Some name) = codes " \"" ++ name_text name ++ codes "\""

-- ---- the whole

-- what stands behind the ends: :CLASS PART; and the condition that the rule stands under, if it does
unfoldable pub rest_text : Parts → StoredRule → List ℕ
rest_text policy rule =
    class_text policy.symbols rule.kind rule.class ++ part_text policy.symbols rule.kind rule.class rule.part ++ file_name_text rule.name ++ codes ";"
    ++ condition_text (name_in policy.symbols) policy.rules.conditionals rule.condition

-- KEYWORD SOURCE TARGET and the rest
unfoldable pub rule_text : Parts → StoredRule → List ℕ
rule_text policy rule = keyword rule.kind ++ codes " " ++ ends_text policy.symbols rule.kind rule.source rule.target ++ rest_text policy rule

-- nothing where there is no rule
abbrev pub text_found : Parts → Option StoredRule → List ℕ
text_found policy None = []
text_found policy (Some rule) = rule_text policy rule

-- the text of the stored rule of a number, from 0 on, without a line feed
unfoldable pub text_of_rule : Parts → ℕ → List ℕ
text_of_rule policy number = text_found policy (slice_get (stored_rules policy) number)

-- ---- with ends of its expansions

-- the rule between two given ends
abbrev pub between : ℕ → ℕ → StoredRule → StoredRule
between source target rule = record rule { source = source; target = target }

-- its text with these values as its ends, whose names come from the tables of its kind
unfoldable pub single_text : Parts → ℕ → ℕ → ℕ → List ℕ
single_text policy number source target = text_found policy (option_map (between source target) (slice_get (stored_rules policy) number))
