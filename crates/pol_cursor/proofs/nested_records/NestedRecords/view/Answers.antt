use Rattle.std.proofs.Common.{◌<◌, ℕ, refl, sym, subst, arith}
use Rattle.pol_cursor.proofs.NestedLists.{length_nested_in, get_nested_in, nested_has, nested_front}
use Rattle.pol_cursor.proofs.nested_records.NestedRecords.view.Goals as goal

pub end_of_nested-place-requires : goal.end_of_nested-place-requires
end_of_nested-place-requires g c =
    let v = c.self.inside in
    let lt : c.args.i < v.count = rw (length_nested_in g.V.Record.standing g.V.NestedRecord.ends v.bytes.now v.place v.count) at (rw (← c.self.view_is) at c.requires) in
    nested_front g.V.Record.has g.V.NestedRecord.ends v.bytes.now v.place v.count c.args.i (omega (arith, lt)) c.self.invariant

pub at-requires : goal.at-requires
at-requires g c k =
    let v = c.self.inside in
    let lt : c.args.i < v.count = rw (length_nested_in g.V.Record.standing g.V.NestedRecord.ends v.bytes.now v.place v.count) at (rw (← c.self.view_is) at c.requires) in
    ((refl, tt), subst (λ (p : ℕ). g.V.Record.has v.bytes.now p) (sym c.end_of_nested-place.ensures) (nested_has g.V.Record.has g.V.NestedRecord.ends v.bytes.now v.place v.count c.args.i lt c.self.invariant))

pub returns : goal.returns
returns g c =
    let v = c.self.inside in
    let lt : c.args.i < v.count = rw (length_nested_in g.V.Record.standing g.V.NestedRecord.ends v.bytes.now v.place v.count) at (rw (← c.self.view_is) at c.requires) in
    rw (← c.self.view_is, c.at.ensures, c.end_of_nested-place.ensures) (get_nested_in g.V.Record.standing g.V.NestedRecord.ends v.bytes.now v.place v.count c.args.i lt)
