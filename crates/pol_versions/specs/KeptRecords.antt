-- What a policy at another version has in common with the policy.
use Rattle.std.specs.Prelude.{◌≡◌, ◌↔◌, None, List, map, Contains}
use Rattle.pol_constraints.specs.declared.ConstraintItem.{ConstraintItem}
use Rattle.pol_constraints.specs.declared.ConstraintRec.{ConstraintRec}
use Rattle.pol_classes.specs.declared.ClassRec.{ClassRec}
use Rattle.pol_file.specs.declared.Parts.{Parts}
use Rattle.pol_read.specs.StoredRules.{StoredRule, stored_rules}
use Rattle.pol_read.specs.declared.RulePart.{RulePart}
use Rattle.pol_read.specs.declared.RulePart.TheVariants.{Perms, Numbers, Default, Range, Nothing}
use Rattle.pol_tree.specs.declared.Tree.{Tree}

-- ---- records

-- an item without its type set, and so on
abbrev pub bare_item : ConstraintItem → ConstraintItem
bare_item item = record item { type_set = None }

abbrev pub bare_constraint : ConstraintRec → ConstraintRec
bare_constraint constraint = record constraint { items = map bare_item constraint.items }

abbrev pub bare_class : ClassRec → ClassRec
bare_class class = record class { constraints = map bare_constraint class.constraints; validatetrans = map bare_constraint class.validatetrans }

-- all other lists and numbers are the same, and the classes are but for the type sets
pub record KeepsRecords (old new : Tree) : Type 0 where
  pub others : new ≡ record old { version = new.version; classes = new.classes; nametrans = new.nametrans; namegroup = new.namegroup }
  pub classes : map bare_class new.classes ≡ map bare_class old.classes

-- ---- rules

-- a part without the place in the file at which its range stands
abbrev pub bare_part : RulePart → RulePart
bare_part (Range range) = Range (record range { place = 0 })
bare_part (Perms mask) = Perms mask
bare_part (Numbers numbers) = Numbers numbers
bare_part (Default value) = Default value
bare_part Nothing = Nothing

abbrev pub bare_rule : StoredRule → StoredRule
bare_rule rule = record rule { part = bare_part rule.part }

-- the stored rules of a policy, without those places
abbrev pub bare_rules : Parts → List StoredRule
bare_rules policy = map bare_rule (stored_rules policy)

-- what is in one list is in the other
pub record HasSame {A : Type 0} (a b : List A) : Type 0 where
  pub each : (x : A) → Contains a x ↔ Contains b x
