use Rattle.std.proofs.Common.{ap, ◌∙◌}
use Rattle.pol_datums.specs.declared.Flavour.TheVariants.{Plain, Attribute}
use Rattle.pol_symbols.specs.declared.symbols.Symbols.{Symbols}
use Rattle.pol_expand.specs.PolicyMap.{values_of_flavour}
use Rattle.pol_expand.proofs.PolicyMaps.{have_rows, flavours_apart, built_map}
use Rattle.pol_expand.proofs.policy_map.type_map.Goals as goal

pub build-requires-clause-few : goal.build-requires-clause-few
build-requires-clause-few c = rw c.deref.ensures.value c.in_ok-rows.ensures.few

pub build-requires-clause-attributes : goal.build-requires-clause-attributes
build-requires-clause-attributes c =
    have_rows c.args.policy.now c.deref.result.now c.in_ok-attributes.attributes Attribute (c.deref.ensures.value ∙ c.in_ok-rows.ensures.rows)
    (c.in_ok-attributes.ensures ∙ ap (λ (symbols : Symbols). values_of_flavour symbols Attribute) c.symbols-symbols.ensures)

pub build-requires-clause-types : goal.build-requires-clause-types
build-requires-clause-types c =
    have_rows c.args.policy.now c.deref.result.now c.in_ok-types.types Plain (c.deref.ensures.value ∙ c.in_ok-rows.ensures.rows)
    (c.in_ok-types.ensures ∙ ap (λ (symbols : Symbols). values_of_flavour symbols Plain) c.symbols-symbols.ensures)

pub build-requires-clause-apart : goal.build-requires-clause-apart
build-requires-clause-apart c = flavours_apart c.symbols-symbols.result.now c.in_ok-attributes.attributes c.in_ok-types.types c.in_ok-attributes.ensures c.in_ok-types.ensures

pub returns-clause-map : goal.returns-clause-map
returns-clause-map c =
    built_map c.args.policy.now c.deref.result.now c.in_ok-attributes.attributes c.in_ok-types.types c.build.result (c.deref.ensures.value ∙ c.in_ok-rows.ensures.rows)
    (c.in_ok-attributes.ensures ∙ ap (λ (symbols : Symbols). values_of_flavour symbols Attribute) c.symbols-symbols.ensures)
    (c.in_ok-types.ensures ∙ ap (λ (symbols : Symbols). values_of_flavour symbols Plain) c.symbols-symbols.ensures) c.build.ensures
