-- A tree at another version has the records of the tree, but for the type sets of constraints.
use Rattle.std.proofs.Common.{◌≡◌, ℕ, Bool, true, false, List, [], ◌∷◌, map, refl}
use Rattle.pol_constraints.specs.declared.ConstraintRec.{ConstraintRec}
use Rattle.pol_classes.specs.declared.ClassRec.{ClassRec}
use Rattle.pol_trans.specs.NameTransitions.{has_groups}
use Rattle.pol_tree.specs.declared.Tree.{Tree}
use Rattle.pol_versions.specs.Conversion.{class_at, constraint_at, converted, item_at, tree_at, with_names}
use Rattle.pol_versions.specs.KeptRecords.{bare_class, bare_constraint, bare_item, KeepsRecords}

-- what is left out of records shows no change of it
left_out : {A B : Type 0} (bare : A → B) (change : A → A) → ((x : A) → bare (change x) ≡ bare x) → (xs : List A) → map bare (map change xs) ≡ map bare xs
left_out bare change same [] = refl
left_out bare change same (x ∷ xs) = rw (same x, left_out bare change same xs) refl

constraint_same : (version : ℕ) (constraint : ConstraintRec) → bare_constraint (constraint_at version constraint) ≡ bare_constraint constraint
constraint_same version constraint = rw (left_out bare_item (item_at version) (λ item. refl) constraint.items) refl

class_same : (version : ℕ) (class : ClassRec) → bare_class (class_at version class) ≡ bare_class class
class_same version class =
    rw (left_out bare_constraint (constraint_at version) (constraint_same version) class.constraints, left_out bare_constraint (constraint_at version) (constraint_same version) class.validatetrans) refl

names_keep : (version : ℕ) (tree : Tree) (before after : Bool) → KeepsRecords tree (with_names before after (tree_at version tree))
names_keep version tree true true = record { others = refl; classes = left_out bare_class (class_at version) (class_same version) tree.classes }
names_keep version tree true false = record { others = refl; classes = left_out bare_class (class_at version) (class_same version) tree.classes }
names_keep version tree false true = record { others = refl; classes = left_out bare_class (class_at version) (class_same version) tree.classes }
names_keep version tree false false = record { others = refl; classes = left_out bare_class (class_at version) (class_same version) tree.classes }

pub conversion_keeps_records : (tree : Tree) (version : ℕ) → KeepsRecords tree (converted tree version)
unfolding converted
conversion_keeps_records tree version = names_keep version tree (has_groups tree.version) (has_groups version)

names_version : (tree : Tree) (before after : Bool) → (with_names before after tree).version ≡ tree.version
names_version tree true true = refl
names_version tree true false = refl
names_version tree false true = refl
names_version tree false false = refl

pub conversion_has_version : (tree : Tree) (version : ℕ) → (converted tree version).version ≡ version
unfolding converted
conversion_has_version tree version = names_version (tree_at version tree) (has_groups tree.version) (has_groups version)
