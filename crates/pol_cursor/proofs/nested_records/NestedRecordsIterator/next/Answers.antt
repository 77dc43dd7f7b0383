use Rattle.std.proofs.Common.{◌∙◌, sym, refl, rules}
use Rattle.pol_cursor.proofs.NestedLists.{nested_first, nested_first_has, nested_others_stand, nested_none}
use Rattle.pol_cursor.proofs.nested_records.NestedRecordsIterator.next.Goals as goal

pub returns-then-self-eq0-clause-steps : goal.returns-then-self-eq0-clause-steps
returns-then-self-eq0-clause-steps g c =
    let v = c.self.inside in
    let none = sym c.self.view_is ∙ nested_none g.V.Record.standing g.V.NestedRecord.ends v.bytes.now v.place v.count c.if-self-eq0.true in
    (none, none)

pub at-view-requires : goal.at-view-requires
at-view-requires g c κs =
    let v = c.self.inside in
    ((refl, tt), nested_first_has g.V.Record.standing g.V.Record.has g.V.NestedRecord.ends v.bytes.now v.place v.count c.if-self-eq0.false c.self.invariant)

pub end-self-inside-requires : goal.end-self-inside-requires
end-self-inside-requires g c =
    let v = c.self.inside in
    nested_first_has g.V.Record.standing g.V.Record.has g.V.NestedRecord.ends v.bytes.now v.place v.count c.if-self-eq0.false c.self.invariant

pub invariant_of-self : goal.invariant_of-self
invariant_of-self g c =
    let v = c.self.inside in
    rw c.end-self-inside.ensures (nested_others_stand g.V.Record.standing g.V.Record.has g.V.NestedRecord.ends v.bytes.now v.place v.count c.if-self-eq0.false c.self.invariant)

pub returns-clause-steps : goal.returns-clause-steps
returns-clause-steps g c =
    let v = c.self.inside in
    rw (c.at-view.ensures, c.end-self-inside.ensures) (sym c.self.view_is ∙ nested_first g.V.Record.standing g.V.Record.has g.V.NestedRecord.ends v.bytes.now v.place v.count c.if-self-eq0.false)

pub returns-clause-goes : goal.returns-clause-goes
returns-clause-goes g c = rw (returns-clause-steps g c) (search rules)
