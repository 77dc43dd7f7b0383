-- The references of a policy, record by record in the order of the file (libsepol's policydb_validate).
use Rattle.std.specs.Prelude.{List, ◌++◌}
use Rattle.pol_cursor.specs.References.{Reference, references_in}
use Rattle.pol_datums.specs.RoleRecord.{role_references}
use Rattle.pol_datums.specs.TypeRecord.{type_references}
use Rattle.pol_datums.specs.SensitivityRecord.{sensitivity_references}
use Rattle.pol_datums.specs.CategoryRecord.{category_references}
use Rattle.pol_symbols.specs.UserRecord.{user_references}
use Rattle.pol_symbols.specs.declared.symbols.Symbols.{Symbols}
use Rattle.pol_avtab.specs.AvRecord.{av_references}
use Rattle.pol_conditionals.specs.CondNodeRecord.{condnode_references}
use Rattle.pol_trans.specs.RoleTransRecord.{role_trans_references}
use Rattle.pol_trans.specs.RoleAllowRecord.{role_allow_references}
use Rattle.pol_trans.specs.NameTransRecord.{name_trans_references}
use Rattle.pol_trans.specs.NameGroupRecord.{name_group_references}
use Rattle.pol_trans.specs.RangeTransRecord.{range_trans_references}
use Rattle.pol_trans.specs.declared.name_trans.NameTrans.{NameTrans}
use Rattle.pol_trans.specs.declared.name_trans.NameTrans.TheVariants.{Entries, Groups}
use Rattle.pol_contexts.specs.SidRecord.{sid_references}
use Rattle.pol_contexts.specs.NamedRecord.{named_references}
use Rattle.pol_contexts.specs.PortRecord.{port_references}
use Rattle.pol_contexts.specs.AddressRecord.{address_references}
use Rattle.pol_contexts.specs.FsUseRecord.{fsuse_references}
use Rattle.pol_contexts.specs.IbPkeyRecord.{ibpkey_references}
use Rattle.pol_contexts.specs.IbEndPortRecord.{ibendport_references}
use Rattle.pol_genfs.specs.GenfsRecord.{genfs_references}
use Rattle.pol_contexts.specs.declared.tables.Contexts.{Contexts}
use Rattle.pol_file.specs.declared.parts.RuleLists.{RuleLists}
use Rattle.pol_file.specs.declared.parts.LabelLists.{LabelLists}
use Rattle.pol_file.specs.declared.parts.Parts.{Parts}

-- the references of the symbol tables. The records of commons, classes and booleans refer to nothing.
abbrev pub symbol_references : Symbols → List Reference
symbol_references symbols =
    references_in role_references symbols.roles.records
    ++ references_in type_references symbols.types.records
    ++ references_in user_references symbols.users.records
    ++ references_in sensitivity_references symbols.levels.records
    ++ references_in category_references symbols.categories.records

-- the references of the file-name transitions
abbrev pub name_transition_references : NameTrans → List Reference
name_transition_references (Entries entries) = references_in name_trans_references entries
name_transition_references (Groups groups) = references_in name_group_references groups

-- the references of the rules
abbrev pub rule_references : RuleLists → List Reference
rule_references rules =
    references_in av_references rules.table
    ++ references_in condnode_references rules.conditionals
    ++ references_in role_trans_references rules.role_trans
    ++ references_in role_allow_references rules.role_allows
    ++ name_transition_references rules.name_trans

-- the references of the tables of contexts
abbrev pub context_references : Contexts → List Reference
context_references contexts =
    references_in sid_references contexts.sid
    ++ references_in named_references contexts.fs
    ++ references_in port_references contexts.port
    ++ references_in named_references contexts.netif
    ++ references_in (address_references 4) contexts.node
    ++ references_in fsuse_references contexts.fsuse
    ++ references_in (address_references 16) contexts.node6
    ++ references_in ibpkey_references contexts.ibpkey
    ++ references_in ibendport_references contexts.ibendport

-- the references of what stands behind the rules. The rows of the type map refer to nothing.
abbrev pub label_references : LabelLists → List Reference
label_references labels =
    context_references labels.contexts
    ++ references_in genfs_references labels.genfs
    ++ references_in range_trans_references labels.range_trans

-- all references, in the order of the file
abbrev pub policy_references : Parts → List Reference
policy_references policy = symbol_references policy.symbols ++ rule_references policy.rules ++ label_references policy.labels
