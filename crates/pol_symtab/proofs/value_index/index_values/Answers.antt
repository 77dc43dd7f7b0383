use Rattle.std.proofs.Common.{sym, ◌∙◌, subst, ◌<◌, length, Some, None, [], ◌+◌, arith}
use Rattle.std.specs.Prelude.{map, vec_len}
use Rattle.std.proofs.lemmas.List.{length-map, length-set}
use Rattle.pol_symtab.specs.Inner.Namings.{is_its_primary, its_value, naming}
use Rattle.pol_symtab.specs.Inner.TableIndex.{IsValueIndex}
use Rattle.pol_symtab.proofs.ListPlaces.{filled_up}
use Rattle.pol_symtab.proofs.ValueEntries.{values_start, after_alias, declared_within, after_primary}
use Rattle.pol_symtab.proofs.value_index.index_values.Goals as goal
use Rattle.pol_symtab.proofs.value_index.index_values.Goals.{in-Some, in-None}

pub loop-i-init : goal.loop-i-init
loop-i-init c =
    let full = filled_up None c.new-by_value.result.items c.resize.new.self.items (c.args.nprim + 1) (vec_len c.new-by_value.result) c.new-by_value.ensures.items c.new-by_value.ensures.len c.in_ok-resize.ensures.items in (
      omega (arith, c.in_ok-resize.ensures.len, c.resize.new.self.ok.0),
      subst (λ entries. IsValueIndex is_its_primary its_value [] entries) (sym full) (values_start is_its_primary its_value (map naming c.args.names.now) (c.args.nprim + 1)),
    )

pub index_mut-requires : goal.index_mut-requires
index_mut-requires c =
    let within = declared_within is_its_primary its_value (map naming c.args.names.now) c.loop-i.by_value.items c.loop-i.i (omega (arith, c.loop-i-test.true, c.requires.few, length-map c.args.names.now naming)) c.loop-i.invariant.1 c.args.nprim c.requires.values c.loop-i.invariant.0 c.in-Some.value (sym c.declared_value.ensures ∙ c.in-Some.is) in
    omega (arith, within, c.loop-i.by_value.ok.0)

pub loop-i-preserved : goal.loop-i-preserved
loop-i-preserved c =
    let lt : c.loop-i.i < length (map naming c.args.names.now) = omega (arith, c.loop-i-test.true, c.requires.few, length-map c.args.names.now naming) in
    elim c.match-declared_value.branch [
      | in-Some w ↦
          rw w.by_value-is (
            length-set c.loop-i.by_value.items w.in-Some.value (Some c.loop-i.i) ∙ c.loop-i.invariant.0,
            after_primary is_its_primary its_value (map naming c.args.names.now) c.loop-i.by_value.items c.loop-i.i lt c.loop-i.invariant.1 c.args.nprim c.requires.values c.loop-i.invariant.0 w.in-Some.value (sym c.declared_value.ensures ∙ w.in-Some.is),
          )
      | in-None w ↦
          rw w.by_value-is (c.loop-i.invariant.0, after_alias is_its_primary its_value (map naming c.args.names.now) c.loop-i.by_value.items c.loop-i.i lt c.loop-i.invariant.1 (sym c.declared_value.ensures ∙ w.in-None.is))
    ]
