-- The first wrong optional part of a tree, in the order of the file.
use Rattle.std.specs.Prelude.{◌==◌, not, Option, [], ◌∷◌, length, slice_index}
use Rattle.pol_fields.specs.declared.Field.{Field}
use Rattle.pol_fields.specs.declared.field.Field.{Field}
use Rattle.pol_fields.specs.declared.fields.TheConstants.{BITMAP_UNIT, NAMETRANS_COUNT, NAMEGROUP_COUNT, IBPKEY_COUNT, IBENDPORT_COUNT}
use Rattle.pol_trans.specs.NameTransitions.{has_groups}
use Rattle.pol_contexts.specs.ContextTables.{has_infiniband}
use Rattle.pol_tree.specs.OptionalParts.{wrong_if, shape_of_list, first_of, first_in}
use Rattle.pol_tree.specs.RecordShapes.{shape_of_class, shape_of_user, shape_of_av, shape_of_condnode, shape_of_range_trans, shape_of_genfs, shape_of_sid, shape_of_named, shape_of_port, shape_of_address, shape_of_fsuse, shape_of_ibpkey, shape_of_ibendport}
use Rattle.pol_tree.specs.declared.tree.Tree.{Tree}

-- classes and users; the records of the other symbol tables have no optional part
unfoldable pub shape_of_symbols : Tree → Option Field
shape_of_symbols tree = first_of (first_in (shape_of_class tree.version) tree.classes ∷ first_in shape_of_user tree.users ∷ [])

-- the rules but for the range transitions. The file-name transitions are empty in the form that the version does not have (libsepol's
-- filename_trans_write).
unfoldable pub shape_of_rules : Tree → Option Field
shape_of_rules tree =
    first_of (
    first_in shape_of_av tree.avtab
    ∷ first_in shape_of_condnode tree.condlist
    ∷ shape_of_list (not (has_groups tree.version)) tree.nametrans NAMETRANS_COUNT
    ∷ shape_of_list (has_groups tree.version) tree.namegroup NAMEGROUP_COUNT
    ∷ [])

-- the tables of contexts; those of InfiniBand are empty in the versions that do not have them (libsepol's ocontext_write_selinux)
unfoldable pub shape_of_contexts : Tree → Option Field
shape_of_contexts tree =
    first_of (
    first_in shape_of_sid tree.sid
    ∷ first_in shape_of_named tree.fs
    ∷ first_in shape_of_port tree.port
    ∷ first_in shape_of_named tree.netif
    ∷ first_in shape_of_address tree.node
    ∷ first_in shape_of_fsuse tree.fsuse
    ∷ first_in shape_of_address tree.node6
    ∷ shape_of_list (has_infiniband tree.version) tree.ibpkey IBPKEY_COUNT
    ∷ first_in shape_of_ibpkey tree.ibpkey
    ∷ shape_of_list (has_infiniband tree.version) tree.ibendport IBENDPORT_COUNT
    ∷ first_in shape_of_ibendport tree.ibendport
    ∷ [])

-- what stands behind those; the type map has a row for each type value (libsepol's policydb_write)
unfoldable pub shape_of_labels : Tree → Option Field
shape_of_labels tree =
    first_of (
    shape_of_contexts tree
    ∷ first_in shape_of_genfs tree.genfs
    ∷ first_in shape_of_range_trans tree.rangetrans
    ∷ wrong_if (not (length tree.typemap == slice_index tree.nprims 3)) BITMAP_UNIT
    ∷ [])

-- a whole tree
unfoldable pub shape : Tree → Option Field
shape tree = first_of (shape_of_symbols tree ∷ shape_of_rules tree ∷ shape_of_labels tree ∷ [])
