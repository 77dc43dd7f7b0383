-- The first wrong optional part of a record, in the order of the file.
use Rattle.std.specs.Prelude.{ℕ, ◌==◌, Option, [], ◌∷◌}
use Rattle.pol_fields.specs.declared.Field.{Field}
use Rattle.pol_fields.specs.declared.field.Field.{Field}
use Rattle.pol_fields.specs.declared.fields.TheConstants.{CONSTRAINT_FLAGS, RANGE_HIGH, AV_XKIND}
use Rattle.pol_mls.specs.declared.RangeRec.{RangeRec}
use Rattle.pol_constraints.specs.declared.ConstraintItem.{ConstraintItem}
use Rattle.pol_constraints.specs.declared.ConstraintRec.{ConstraintRec}
use Rattle.pol_constraints.specs.ConstraintRecord.{has_names, has_type_set}
use Rattle.pol_classes.specs.declared.ClassRec.{ClassRec}
use Rattle.pol_symbols.specs.declared.UserRec.{UserRec}
use Rattle.pol_avtab.specs.declared.AvRec.{AvRec}
use Rattle.pol_conditionals.specs.declared.CondNodeRec.{CondNodeRec}
use Rattle.pol_avtab.specs.AvRecord.{is_extended}
use Rattle.pol_avtab.specs.XPerms.{xperms_of}
use Rattle.pol_trans.specs.declared.RangeTransRec.{RangeTransRec}
use Rattle.pol_mls.specs.declared.ContextRec.{ContextRec}
use Rattle.pol_contexts.specs.declared.SidRec.{SidRec}
use Rattle.pol_contexts.specs.declared.NamedRec.{NamedRec}
use Rattle.pol_contexts.specs.declared.PortRec.{PortRec}
use Rattle.pol_contexts.specs.declared.AddressRec.{AddressRec}
use Rattle.pol_contexts.specs.declared.FsUseRec.{FsUseRec}
use Rattle.pol_contexts.specs.declared.IbPkeyRec.{IbPkeyRec}
use Rattle.pol_contexts.specs.declared.IbEndPortRec.{IbEndPortRec}
use Rattle.pol_genfs.specs.declared.GenfsPathRec.{GenfsPathRec}
use Rattle.pol_genfs.specs.declared.GenfsRec.{GenfsRec}
use Rattle.pol_tree.specs.OptionalParts.{shape_of_part, first_of, first_in}

-- a range has a high level exactly where its number of levels is 2 (libsepol's mls_read_range_helper)
abbrev pub shape_of_range : RangeRec → Option Field
shape_of_range range = shape_of_part (range.n == 2) range.high RANGE_HIGH

-- ---- symbols

-- an item of a constraint has names exactly where its kind is 5 (libsepol's CEXPR_NAMES), and a type set exactly where its kind is 5
-- and the version has them
abbrev pub shape_of_item : ℕ → ConstraintItem → Option Field
shape_of_item version item =
    first_of (
    shape_of_part (has_names item.kind) item.names CONSTRAINT_FLAGS
    ∷ shape_of_part (has_type_set version item.kind) item.type_set CONSTRAINT_FLAGS
    ∷ [])

-- the items of a constraint
abbrev pub shape_of_constraint : ℕ → ConstraintRec → Option Field
shape_of_constraint version constraint = first_in (shape_of_item version) constraint.items

-- the constraints of a class, and then those on a change of context
abbrev pub shape_of_class : ℕ → ClassRec → Option Field
shape_of_class version class = first_of (first_in (shape_of_constraint version) class.constraints ∷ first_in (shape_of_constraint version) class.validatetrans ∷ [])

-- the range of a user
abbrev pub shape_of_user : UserRec → Option Field
shape_of_user user = shape_of_range user.range

-- ---- rules

-- an access vector has the extended part, and no data, exactly where it specifies an extended kind (libsepol's avtab_read_item)
abbrev pub shape_of_av : AvRec → Option Field
shape_of_av av = shape_of_part (is_extended av.specified) (xperms_of av.part) AV_XKIND

-- the rules that hold where the condition of a node is true, and then the others
abbrev pub shape_of_condnode : CondNodeRec → Option Field
shape_of_condnode node = first_of (first_in shape_of_av node.true_rules ∷ first_in shape_of_av node.false_rules ∷ [])

-- the range of a range transition
abbrev pub shape_of_range_trans : RangeTransRec → Option Field
shape_of_range_trans trans = shape_of_range trans.range

-- ---- contexts

-- the range of a context
abbrev pub shape_of_context : ContextRec → Option Field
shape_of_context context = shape_of_range context.range

-- the context of an entry, here and below
abbrev pub shape_of_sid : SidRec → Option Field
shape_of_sid entry = shape_of_context entry.context

-- both contexts of an entry
abbrev pub shape_of_named : NamedRec → Option Field
shape_of_named entry = first_of (shape_of_context entry.context ∷ shape_of_context entry.second_context ∷ [])

abbrev pub shape_of_port : PortRec → Option Field
shape_of_port entry = shape_of_context entry.context

abbrev pub shape_of_address : {width : ℕ} → AddressRec width → Option Field
shape_of_address entry = shape_of_context entry.context

abbrev pub shape_of_fsuse : FsUseRec → Option Field
shape_of_fsuse entry = shape_of_context entry.context

abbrev pub shape_of_ibpkey : IbPkeyRec → Option Field
shape_of_ibpkey entry = shape_of_context entry.context

abbrev pub shape_of_ibendport : IbEndPortRec → Option Field
shape_of_ibendport entry = shape_of_context entry.context

-- the context of a path
abbrev pub shape_of_path : GenfsPathRec → Option Field
shape_of_path entry = shape_of_context entry.context

-- the paths of a file system
abbrev pub shape_of_genfs : GenfsRec → Option Field
shape_of_genfs entry = first_in shape_of_path entry.paths
