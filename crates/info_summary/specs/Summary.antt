-- The summary of a policy (SETools' seinfo without a listing; words and order are this project's profile).
use Rattle.std.specs.Prelude.{ℕ, ◌/◌, ◌%◌, ◌==◌, List, [], ◌∷◌, ◌++◌, length, codes, if◌then◌else◌}
use Rattle.pol_datums.specs.declared.Flavour.TheVariants.{Plain, Attribute}
use Rattle.pol_symbols.specs.declared.Symbols.{Symbols}
use Rattle.pol_read.specs.declared.RuleKind.TheVariants.{Allow, Auditallow, Dontaudit, AllowXperm, AuditallowXperm, DontauditXperm, TypeTransition, TypeChange, TypeMember, RoleAllow, RoleTransition, RangeTransition}
use Rattle.pol_file.specs.declared.LabelLists.{LabelLists}
use Rattle.pol_file.specs.declared.Parts.{Parts}
use Rattle.info_summary.specs.SummaryLines.{summary_line, count_line}
use Rattle.info_summary.specs.RuleCounts.{rule_count}
use Rattle.info_summary.specs.Counts.{flavour_count, sensitivity_count, category_count, constraint_count, validatetrans_count, path_count, node_count, permissive_count, capability_count}

-- how the kernel treats classes and permissions that the policy does not know, by the header's config (REJECT_UNKNOWN and
-- ALLOW_UNKNOWN of libsepol)
abbrev pub unknown_word : ℕ → List ℕ
unknown_word config = if config / 2 % 2 == 1 then codes "reject" else if config / 4 % 2 == 1 then codes "allow" else codes "deny"

abbrev pub header_lines : ℕ → ℕ → List (List ℕ)
header_lines version config =
    count_line (codes "Policy version") version
    ∷ summary_line (codes "Unknown classes") (unknown_word config)
    ∷ []

abbrev pub symbol_lines : Symbols → List (List ℕ)
symbol_lines symbols =
    count_line (codes "Commons") (length symbols.commons.records)
    ∷ count_line (codes "Classes") (length symbols.classes.records)
    ∷ count_line (codes "Sensitivities") (sensitivity_count symbols.levels.records)
    ∷ count_line (codes "Categories") (category_count symbols.categories.records)
    ∷ count_line (codes "Types") (flavour_count Plain symbols.types.records)
    ∷ count_line (codes "Type attributes") (flavour_count Attribute symbols.types.records)
    ∷ count_line (codes "Users") (length symbols.users.records)
    ∷ count_line (codes "Roles") (length symbols.roles.records)
    ∷ count_line (codes "Booleans") (length symbols.booleans.records)
    ∷ []

abbrev pub rule_lines : Parts → List (List ℕ)
rule_lines policy =
    count_line (codes "Allow") (rule_count policy Allow)
    ∷ count_line (codes "Auditallow") (rule_count policy Auditallow)
    ∷ count_line (codes "Dontaudit") (rule_count policy Dontaudit)
    ∷ count_line (codes "Allowxperm") (rule_count policy AllowXperm)
    ∷ count_line (codes "Auditallowxperm") (rule_count policy AuditallowXperm)
    ∷ count_line (codes "Dontauditxperm") (rule_count policy DontauditXperm)
    ∷ count_line (codes "Type_transition") (rule_count policy TypeTransition)
    ∷ count_line (codes "Type_change") (rule_count policy TypeChange)
    ∷ count_line (codes "Type_member") (rule_count policy TypeMember)
    ∷ count_line (codes "Role_allow") (rule_count policy RoleAllow)
    ∷ count_line (codes "Role_transition") (rule_count policy RoleTransition)
    ∷ count_line (codes "Range_transition") (rule_count policy RangeTransition)
    ∷ []

abbrev pub constraint_lines : Symbols → List (List ℕ)
constraint_lines symbols =
    count_line (codes "Constraints") (constraint_count symbols.classes.records)
    ∷ count_line (codes "Validatetrans") (validatetrans_count symbols.classes.records)
    ∷ []

abbrev pub context_lines : LabelLists → List (List ℕ)
context_lines labels =
    count_line (codes "Initial SIDs") (length labels.contexts.sid)
    ∷ count_line (codes "Fs_use") (length labels.contexts.fsuse)
    ∷ count_line (codes "Genfscon") (path_count labels.genfs)
    ∷ count_line (codes "Portcon") (length labels.contexts.port)
    ∷ count_line (codes "Netifcon") (length labels.contexts.netif)
    ∷ count_line (codes "Nodecon") (node_count labels.contexts)
    ∷ count_line (codes "Ibpkeycon") (length labels.contexts.ibpkey)
    ∷ count_line (codes "Ibendportcon") (length labels.contexts.ibendport)
    ∷ []

abbrev pub mark_lines : Parts → List (List ℕ)
mark_lines policy =
    count_line (codes "Permissive types") (permissive_count policy)
    ∷ count_line (codes "Policy capabilities") (capability_count policy)
    ∷ []

-- the version, how unknown classes are treated, and a count of each thing that a policy has
unfoldable pub summary_lines : Parts → List (List ℕ)
summary_lines policy =
    header_lines policy.front.header.version policy.front.header.config
    ++ symbol_lines policy.symbols
    ++ rule_lines policy
    ++ constraint_lines policy.symbols
    ++ context_lines policy.labels
    ++ mark_lines policy
