-- The texts of expressions that are kept, since many constraints share few expressions.
use Rattle.std.specs.Prelude.{◌≡◌, ℕ, List, Option, Some, None, slice_get}
use Rattle.pol_cursor.specs.References.{Named}
use Rattle.pol_constraints.specs.declared.ConstraintItem.{ConstraintItem}
use Rattle.pol_symbols.specs.declared.symbols.Symbols.{Symbols}
use Rattle.pol_symbols.specs.PolicySymbols.{name_in}
use Rattle.info_classes.specs.declared.constraint_entry.ConstraintEntry.{ConstraintEntry}
use Rattle.info_classes.specs.declared.expression_texts.ExpressionText.{ExpressionText}
use Rattle.pol_constraints.specs.ConstraintTexts.{constraint_symbol, constraint_symbols, constraint_text}

-- two items stand for the same, whatever names the values have
pub record IsAlike (item other : ConstraintItem) : Type 0 where
  pub symbol : (named : Named) → constraint_symbol named item ≡ constraint_symbol named other

-- so do two lists of items, one by one
pub record SayTheSame (items others : List ConstraintItem) : Type 0 where
  pub symbols : (named : Named) → constraint_symbols named items ≡ constraint_symbols named others

-- a text is that of the expression of an entry
abbrev pub IsTextOf : Symbols → List ℕ → Option ConstraintEntry → Type 0
IsTextOf symbols text None = ⊥
IsTextOf symbols text (Some entry) = text ≡ constraint_text (name_in symbols) entry.constraint.items

-- a kept text is that of the entry of its number
abbrev pub IsKept : Symbols → List ConstraintEntry → ExpressionText → Type 0
IsKept symbols entries kept = IsTextOf symbols kept.text.items (slice_get entries kept.number)
