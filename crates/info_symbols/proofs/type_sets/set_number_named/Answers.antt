use Rattle.std.proofs.Common.{◌<◌, length, refl, sym, subst}
use Rattle.pol_fields.specs.declared.TableKind.TheVariants.{Types}
use Rattle.pol_symbols.specs.declared.symbols.Symbols.{Symbols}
use Rattle.info_lines.proofs.Placing.{named_within}
use Rattle.info_symbols.proofs.type_sets.set_number_named.Goals as goal

pub view-requires : goal.view-requires
view-requires c κs = ((refl, tt), named_within c.symbols-symbols.result.now Types c.args.name.now c.in-Some.number (sym c.in-Some.ensures))

pub returns-then-is_in-clause-within : goal.returns-then-is_in-clause-within
returns-then-is_in-clause-within c =
    subst (λ (symbols : Symbols). c.in-Some.number < length symbols.types.records) c.symbols-symbols.ensures
    (named_within c.symbols-symbols.result.now Types c.args.name.now c.in-Some.number (sym c.in-Some.ensures))
