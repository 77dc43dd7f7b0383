use Rattle.std.proofs.Common.{◌≡◌, ℕ, List, ◌++◌, true, append_assoc, ap, refl}
use Rattle.std.specs.Prelude.{codes, slice_index_or, []}
use Rattle.std.proofs.lemmas.Result.{on_ok_weaker}
use Rattle.pol_fields.specs.declared.TableKind.TheVariants.{Levels}
use Rattle.pol_datums.specs.declared.SensitivityRec.{SensitivityRec}
use Rattle.pol_symbols.specs.declared.symbols.Symbols.{Symbols}
use Rattle.pol_texts.specs.NameLists.{in_order}
use Rattle.info_symbols.specs.Inner.AliasLists.{AreAliases}
use Rattle.info_symbols.specs.Aliases.{alias_names, alias_text}
use Rattle.info_symbols.specs.MlsLines.{level_part, sensitivity_statement}
use Rattle.info_symbols.proofs.mls_texts.push_sensitivity.Goals as goal

-- the line, part for part
parts_are : (symbols : Symbols) (level : SensitivityRec) (lists : List (List (List ℕ))) (sens : ℕ) (name old a b d new : List ℕ)
    → AreAliases true symbols Levels lists → sens ≡ level.sens → name ≡ level.name
    → a ≡ old ++ codes "sensitivity " → b ≡ a ++ name → d ≡ b ++ alias_text (in_order (slice_index_or lists sens [])) → new ≡ d ++ level_part symbols level
    → new ≡ old ++ sensitivity_statement symbols level
unfolding sensitivity_statement
parts_are symbols level lists sens name old a b d new are same named first second third fourth =
    let aliases : in_order (slice_index_or lists sens []) ≡ alias_names symbols Levels level.sens = rw (← same) (ap in_order (are.each refl sens)) in
    rw (fourth, third, aliases, second, named, first) (simp append_assoc)

pub returns : goal.returns
returns c =
    on_ok_weaker c.push_level_part.result
    (parts_are c.args.symbols.now c.args.level.now.value c.args.aliases.now c.sens.result c.name.result.now c.args.buffer.now.items _ _ _ _ c.requires c.sens.ensures c.name.ensures c.in_ok-extend_from_slice.ensures.items c.in_ok-extend_from_slice-2.ensures.items c.in_ok-push_aliases.ensures)
    c.push_level_part.ensures
