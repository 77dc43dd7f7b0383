use Rattle.std.proofs.Common.{ℕ, ◌∙◌, ap, sym, subst, refl}
use Rattle.pol_cursor.specs.NestedRecords.{nested_end}
use Rattle.pol_cursor.proofs.NestedLists.{nested_has, nested_end_next}
use Rattle.pol_cursor.proofs.nested_records.end_of_nested.Goals as goal

pub end-end-requires : goal.end-end-requires
end-end-requires g c = subst (λ (p : ℕ). g.K.Record.has c.args.bytes.now p) (sym c.loop.invariant) (nested_has g.K.Record.has g.K.NestedRecord.ends c.args.bytes.now c.args.place c.args.count c.loop.counter c.loop-test.true c.requires)

pub loop-preserved : goal.loop-preserved
loop-preserved g c = c.end-end.ensures ∙ ap (g.K.NestedRecord.ends c.args.bytes.now) c.loop.invariant ∙ sym (nested_end_next g.K.NestedRecord.ends c.args.bytes.now c.args.place c.loop.counter)

pub loop-init : goal.loop-init
unfolding nested_end
loop-init g c = refl
