use Rattle.std.proofs.Common.{◌∙◌, ap, sym, rules}
use Rattle.std.specs.Prelude.{map}
use Rattle.pol_cursor.proofs.NestedLists.{nested_first_has, nested_others_stand, nested_none}
use Rattle.pol_constraints.specs.ConstraintRecord.{constraint_in, constraint_end, HasConstraint}
use Rattle.pol_commons.proofs.NestedValues.{values_first}
use Rattle.pol_classes.proofs.constraint_list.ConstraintListIterator.next.Goals as goal

pub returns-then-self-eq0-clause-steps : goal.returns-then-self-eq0-clause-steps
returns-then-self-eq0-clause-steps c =
    let v = c.self.inside in
    let none = sym c.self.view_is ∙ ap (map (λ r. r.value)) (nested_none (constraint_in v.version) (constraint_end v.version) v.bytes.now v.place v.count c.if-self-eq0.true) in
    (none, none)

pub at-constraint-requires : goal.at-constraint-requires
at-constraint-requires c =
    let v = c.self.inside in
    nested_first_has (constraint_in v.version) (HasConstraint v.version) (constraint_end v.version) v.bytes.now v.place v.count c.if-self-eq0.false c.self.invariant

pub constraint_end-self-inside-requires : goal.constraint_end-self-inside-requires
constraint_end-self-inside-requires c =
    let v = c.self.inside in
    nested_first_has (constraint_in v.version) (HasConstraint v.version) (constraint_end v.version) v.bytes.now v.place v.count c.if-self-eq0.false c.self.invariant

pub invariant_of-self : goal.invariant_of-self
invariant_of-self c =
    let v = c.self.inside in
    rw c.constraint_end-self-inside.ensures (nested_others_stand (constraint_in v.version) (HasConstraint v.version) (constraint_end v.version) v.bytes.now v.place v.count c.if-self-eq0.false c.self.invariant)

pub returns-clause-steps : goal.returns-clause-steps
returns-clause-steps c =
    let v = c.self.inside in
    rw (c.at-constraint.ensures, c.constraint_end-self-inside.ensures) (sym c.self.view_is ∙ values_first (constraint_in v.version) (constraint_end v.version) v.bytes.now (HasConstraint v.version) v.place v.count c.if-self-eq0.false)

pub returns-clause-goes : goal.returns-clause-goes
returns-clause-goes c = rw (returns-clause-steps c) (search rules)
