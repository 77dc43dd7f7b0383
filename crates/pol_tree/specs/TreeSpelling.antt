-- How a tree is spelled: its parts in the order of the file (libsepol's policydb_write).
use Rattle.std.specs.Prelude.{ℕ, Bool, true, false, List, [], ◌++◌, slice_index, if◌then◌else◌}
use Rattle.std.specs.List.{flat_map}
use Rattle.pol_cursor.specs.Parts.{spell_counted}
use Rattle.pol_bitmap.specs.Bitmap.{spell_bitmap}
use Rattle.pol_file.specs.declared.HeaderRec.{HeaderRec}
use Rattle.pol_file.specs.HeaderRecord.{spell_header}
use Rattle.pol_symtab.specs.SymbolTables.{BareTable, spell_table}
use Rattle.pol_commons.specs.CommonRecord.{spell_common}
use Rattle.pol_datums.specs.RoleRecord.{spell_role}
use Rattle.pol_datums.specs.TypeRecord.{spell_type}
use Rattle.pol_datums.specs.BooleanRecord.{spell_boolean}
use Rattle.pol_datums.specs.SensitivityRecord.{spell_sensitivity}
use Rattle.pol_datums.specs.CategoryRecord.{spell_category}
use Rattle.pol_classes.specs.ClassRecord.{spell_class}
use Rattle.pol_symbols.specs.UserRecord.{spell_user}
use Rattle.pol_avtab.specs.AvRecord.{spell_av}
use Rattle.pol_conditionals.specs.CondNodeRecord.{spell_condnode}
use Rattle.pol_trans.specs.RoleTransRecord.{spell_role_trans}
use Rattle.pol_trans.specs.RoleAllowRecord.{spell_role_allow}
use Rattle.pol_trans.specs.NameTransRecord.{spell_name_trans}
use Rattle.pol_trans.specs.NameGroupRecord.{spell_name_group}
use Rattle.pol_trans.specs.RangeTransRecord.{spell_range_trans}
use Rattle.pol_trans.specs.NameTransitions.{has_groups}
use Rattle.pol_contexts.specs.SidRecord.{spell_sid}
use Rattle.pol_contexts.specs.NamedRecord.{spell_named}
use Rattle.pol_contexts.specs.PortRecord.{spell_port}
use Rattle.pol_contexts.specs.AddressRecord.{spell_address}
use Rattle.pol_contexts.specs.FsUseRecord.{spell_fsuse}
use Rattle.pol_contexts.specs.IbPkeyRecord.{spell_ibpkey}
use Rattle.pol_contexts.specs.IbEndPortRecord.{spell_ibendport}
use Rattle.pol_contexts.specs.ContextTables.{has_infiniband}
use Rattle.pol_genfs.specs.GenfsRecord.{spell_genfs}
use Rattle.pol_tree.specs.declared.tree.Tree.{Tree}

-- the header of a tree
abbrev pub header_of : Tree → HeaderRec
header_of tree = record { version = tree.version; config = tree.config }

-- the symbol table of that number, from 0 on, and its records
abbrev pub table_of : {A : Type 0} → Tree → ℕ → List A → BareTable A
table_of tree number records = record { nprim = slice_index tree.nprims number; records = records }

-- the header, the policy's capabilities, and the types whose domains are permissive
unfoldable pub spell_front : Tree → List ℕ
spell_front tree = spell_header (header_of tree) ++ spell_bitmap tree.capabilities ++ spell_bitmap tree.permissive

-- the eight symbol tables
unfoldable pub spell_symbols : Tree → List ℕ
spell_symbols tree =
    spell_table spell_common (table_of tree 0 tree.commons)
    ++ spell_table spell_class (table_of tree 1 tree.classes)
    ++ spell_table spell_role (table_of tree 2 tree.roles)
    ++ spell_table spell_type (table_of tree 3 tree.types)
    ++ spell_table spell_user (table_of tree 4 tree.users)
    ++ spell_table spell_boolean (table_of tree 5 tree.booleans)
    ++ spell_table spell_sensitivity (table_of tree 6 tree.levels)
    ++ spell_table spell_category (table_of tree 7 tree.categories)

-- the file-name transitions, as groups in the versions that have them
abbrev pub spell_name_transitions : Tree → List ℕ
spell_name_transitions tree = if has_groups tree.version then spell_counted spell_name_group tree.namegroup else spell_counted spell_name_trans tree.nametrans

-- the rules but for the range transitions
unfoldable pub spell_rules : Tree → List ℕ
spell_rules tree =
    spell_counted spell_av tree.avtab
    ++ spell_counted spell_condnode tree.condlist
    ++ spell_counted spell_role_trans tree.roletrans
    ++ spell_counted spell_role_allow tree.roleallow
    ++ spell_name_transitions tree

-- lists that are in the file or are not
abbrev pub spell_if : Bool → List ℕ → List ℕ
spell_if true text = text
spell_if false text = []

-- the tables of InfiniBand, in the versions that have them
abbrev pub spell_infiniband : Tree → List ℕ
spell_infiniband tree = spell_if (has_infiniband tree.version) (spell_counted spell_ibpkey tree.ibpkey ++ spell_counted spell_ibendport tree.ibendport)

-- the tables of contexts
unfoldable pub spell_contexts : Tree → List ℕ
spell_contexts tree =
    spell_counted spell_sid tree.sid
    ++ spell_counted spell_named tree.fs
    ++ spell_counted spell_port tree.port
    ++ spell_counted spell_named tree.netif
    ++ spell_counted spell_address tree.node
    ++ spell_counted spell_fsuse tree.fsuse
    ++ spell_counted spell_address tree.node6
    ++ spell_infiniband tree

-- what stands behind the rules. The rows of the type map have no count, since each type value has one.
unfoldable pub spell_labels : Tree → List ℕ
spell_labels tree =
    spell_contexts tree
    ++ spell_counted spell_genfs tree.genfs
    ++ spell_counted spell_range_trans tree.rangetrans
    ++ flat_map spell_bitmap tree.typemap

-- a whole tree
unfoldable pub spell : Tree → List ℕ
spell tree = spell_front tree ++ spell_symbols tree ++ spell_rules tree ++ spell_labels tree
