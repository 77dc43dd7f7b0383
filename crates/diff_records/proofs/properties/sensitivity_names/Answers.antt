use Rattle.std.proofs.Common.{◌+◌, ◌∷◌, ◌++◌, [], refl, ap, ◌∙◌, arith}
use Rattle.std.specs.List.{filter_map}
use Rattle.pol_fields.specs.declared.TableKind.TheVariants.{Levels}
use Rattle.pol_symbols.specs.PolicySymbols.{name_in}
use Rattle.diff_records.proofs.SpacedNames.{names_more}
use Rattle.diff_records.proofs.properties.sensitivity_names.Goals as goal

pub values-preserved : goal.values-preserved
values-preserved c =
    let name_of = name_in c.args.symbols.now Levels in
    let next = c.values.value + 1 in (
      c.in_ok-push_declared.ensures
          ∙ ap (λ names. names ++ filter_map name_of (next ∷ [])) c.values.invariant.0
          ∙ names_more name_of c.values.value next refl,
      omega (arith, c.values-test.true, c.prims.ensures),
    )
