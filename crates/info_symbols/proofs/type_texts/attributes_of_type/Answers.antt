use Rattle.std.proofs.Common.{◌≡◌, ℕ, [], false, refl, sym, ◌∙◌}
use Rattle.pol_file.specs.declared.parts.Parts.{Parts}
use Rattle.info_lines.specs.NameSets.{values_of_bits}
use Rattle.info_symbols.specs.TypeStatements.{attributes_of_type, may_be_type}
use Rattle.info_symbols.proofs.type_texts.attributes_of_type.Goals as goal

-- no value of the table has no attribute
none_there : (parts : Parts) (value : ℕ) → may_be_type parts.symbols value ≡ false → [] ≡ attributes_of_type parts value
unfolding values_of_bits
none_there parts value none = rw none refl

pub returns-then-not-may_be_type : goal.returns-then-not-may_be_type
returns-then-not-may_be_type c =
    c.new.ensures.items ∙ none_there c.args.policy.now c.args.value (rw (← c.symbols.ensures) (sym c.may_be_type.ensures ∙ c.if-not-may_be_type.true))
