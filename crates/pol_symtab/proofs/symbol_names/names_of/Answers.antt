use Rattle.std.proofs.Common.{◌≡◌, refl, sym, ap, ◌∙◌, length, take, arith}
use Rattle.std.specs.Prelude.{map}
use Rattle.std.proofs.lemmas.List.{map_push, length-map, length-take}
use Rattle.pol_symtab.specs.declared.symbol_names.SymbolName.{SymbolName}
use Rattle.pol_symtab.specs.Inner.Namings.{naming, naming_of}
use Rattle.pol_symtab.proofs.ListPlaces.{take_then}
use Rattle.pol_symtab.proofs.symbol_names.names_of.Goals as goal

pub loop-number-preserved : goal.loop-number-preserved
loop-number-preserved g c =
    let told = naming_of g.K.SymbolKind.name_of g.K.SymbolKind.is_primary g.K.SymbolKind.value_of in
    let symbol : SymbolName = record { name = c.name.result; value = c.value.result; primary = c.is_primary.result } in
    let r = g.K.RecordView.shown c.view-record.result in
    let is : naming symbol ≡ told r = rw (c.name.ensures, c.value.ensures, c.is_primary.ensures) refl in
    rw c.in_ok-push.ensures.items (
    map_push naming c.loop-number.names.items symbol
    ∙ rw (is, c.loop-number.invariant) (sym (ap (map told) (take_then c.args.records.now c.loop-number.number r c.view-record.ensures) ∙ map_push told (take c.loop-number.number c.args.records.now) r))
    )

pub returns-clause-few : goal.returns-clause-few
returns-clause-few g c =
    let told = naming_of g.K.SymbolKind.name_of g.K.SymbolKind.is_primary g.K.SymbolKind.value_of in
    let part = take c.loop-number.number c.args.records.now in
    omega (
      arith,
      length-map c.loop-number.names.items naming,
      ap length c.loop-number.invariant,
      length-map part told,
      length-take c.loop-number.number c.args.records.now,
      c.len-number-end.ensures,
      c.len-number-end.type_inv,
    )
