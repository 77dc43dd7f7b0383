-- A policy at another version: what libsepol's policydb_write writes otherwise by the version.
use Rattle.std.specs.Prelude.{◌≡◌, ℕ, Bool, true, false, nat_lt, Option, Some, None, Result, Ok, Err, List, [], length, map, if◌then◌else◌}
use Rattle.pol_fields.specs.declared.limits.TheConstants.{MAX_POLICY_BYTES}
use Rattle.pol_bitmap.specs.declared.Node.{Node}
use Rattle.set_nodes.specs.SetNodes.{set_of_values}
use Rattle.pol_constraints.specs.declared.ConstraintItem.{ConstraintItem}
use Rattle.pol_constraints.specs.declared.ConstraintRec.{ConstraintRec}
use Rattle.pol_constraints.specs.declared.TypeSet.{TypeSet}
use Rattle.pol_constraints.specs.ConstraintRecord.{has_type_set}
use Rattle.pol_datums.specs.declared.TypeRec.{TypeRec}
use Rattle.pol_classes.specs.declared.ClassRec.{ClassRec}
use Rattle.pol_trans.specs.NameTransitions.{has_groups}
use Rattle.pol_convert.specs.Grouped.{grouped}
use Rattle.pol_convert.specs.Ungrouped.{ungrouped}
use Rattle.pol_file.specs.declared.Parts.{Parts}
use Rattle.pol_file.specs.Acceptance.{accept}
use Rattle.pol_tree.specs.declared.Tree.{Tree}
use Rattle.pol_tree.specs.PolicyTree.{tree_of}
use Rattle.pol_tree.specs.TreeSpelling.{spell}
use Rattle.pol_unheld.specs.declared.Unheld.{Unheld}
use Rattle.pol_unheld.specs.declared.Unheld.TheVariants.{TooLong}
use Rattle.pol_versions.specs.Losses.{lost_part}
use Rattle.pol_versions.specs.declared.errors.ConvertError.{ConvertError}
use Rattle.pol_versions.specs.declared.errors.ConvertError.TheVariants as errors

-- a tree is that of a policy: some file is accepted as a policy of this tree
pub record IsPolicyTree (tree : Tree) : Type 0 where
  pub bytes : List ℕ
  pub policy : Parts
  pub accepted : accept bytes ≡ Ok policy
  pub same : tree_of policy ≡ tree

-- ---- the type sets of constraints

-- the type set that was there, or one that has nothing in it
abbrev pub type_set_of : Option TypeSet → TypeSet
type_set_of (Some set) = set
type_set_of None = record { types = []; negated = []; flags = 0 }

-- an item has a type set exactly where items of its kind have one in the version
abbrev pub item_at : ℕ → ConstraintItem → ConstraintItem
item_at version item = record item { type_set = if has_type_set version item.kind then Some (type_set_of item.type_set) else None }

abbrev pub constraint_at : ℕ → ConstraintRec → ConstraintRec
constraint_at version constraint = record constraint { items = map (item_at version) constraint.items }

abbrev pub class_at : ℕ → ClassRec → ClassRec
class_at version class = record class { constraints = map (constraint_at version) class.constraints; validatetrans = map (constraint_at version) class.validatetrans }

-- a tree at another version, but for its file-name transitions
abbrev pub tree_at : ℕ → Tree → Tree
tree_at version tree = record tree { version = version; classes = map (class_at version) tree.classes }

-- ---- the file-name transitions

-- the values of type records: those of types and attributes, since an alias has the value of its type
abbrev pub values_of_types : List TypeRec → List Node
values_of_types types = set_of_values (map (λ type. type.value) types)

-- entries in place of groups: those of the sources that are declared
abbrev pub with_entries : Tree → Tree
with_entries tree = record tree { nametrans = ungrouped (values_of_types tree.types) tree.namegroup; namegroup = [] }

-- groups in place of entries
abbrev pub with_groups : Tree → Tree
with_groups tree = record tree { nametrans = []; namegroup = grouped tree.nametrans }

-- from a version that has groups or has not to one that has them or has not
abbrev pub with_names : Bool → Bool → Tree → Tree
with_names true false tree = with_entries tree
with_names false true tree = with_groups tree
with_names true true tree = tree
with_names false false tree = tree

-- ---- a whole tree

-- The tree at another version: the records are the same, but for the type sets of constraints and the form of the file-name transitions.
unfoldable pub converted : Tree → ℕ → Tree
converted tree version = with_names (has_groups tree.version) (has_groups version) (tree_at version tree)

-- no file of a policy is as long
unfoldable pub too_long : Tree → Option Unheld
too_long tree = if nat_lt MAX_POLICY_BYTES (length (spell tree)) then Some TooLong else None

abbrev pub unless_lost : Option Unheld → Option Unheld → Option Unheld
unless_lost (Some part) others = Some part
unless_lost None others = others

-- what a version cannot hold of a tree: the first part that it has no room for, or the number of the bytes
abbrev pub cannot : Tree → ℕ → Option Unheld
cannot tree version = unless_lost (lost_part tree version) (too_long (converted tree version))

-- The answer is the tree exactly where nothing cannot be held, and else what cannot, where memory suffices.
abbrev pub Converts : Option Unheld → Tree → Result Tree ConvertError → Type 0
Converts unheld new (Ok tree) = (unheld ≡ None) × (tree ≡ new)
Converts unheld new (Err errors.Memory) = Unit {0}
Converts unheld new (Err (errors.CannotHold part)) = unheld ≡ Some part
