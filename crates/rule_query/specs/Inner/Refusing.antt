-- What criteria are refused for, as the code asks it. It serves the code alone.
use Rattle.std.specs.Prelude.{ℕ, not, Option, List, is_some}
use Rattle.std.specs.List.{list_all, list_any}
use Rattle.pol_fields.specs.declared.TableKind.{TableKind}
use Rattle.pol_fields.specs.declared.TableKind.TheVariants as tables
use Rattle.pol_symbols.specs.declared.Symbols.{Symbols}
use Rattle.pol_read.specs.declared.RuleKind.{RuleKind}
use Rattle.pol_read.specs.RuleKinds.{default_table, source_table, target_table}
use Rattle.rule_query.specs.declared.given.Aspect.{Aspect}
use Rattle.rule_query.specs.declared.given.Aspect.TheVariants.{Source, Target, Permissions, Numbers, Booleans}
use Rattle.rule_query.specs.declared.refusing.Refusal.{Refusal}
use Rattle.rule_query.specs.declared.refusing.Refusal.TheVariants.{NotThere, NoNumber}
use Rattle.rule_tests.specs.AskedNumbers.{span_of}
use Rattle.rule_query.specs.Refusals.{is_missing, is_permission, refuse_if}

-- the table of the sources of a kind, of its targets, or of its defaults
abbrev pub end_table : Aspect → RuleKind → TableKind
end_table Source = source_table
end_table Target = target_table
end_table other = default_table

-- why a list is refused for its elements
abbrev pub refusal_of_elements : Symbols → Aspect → List (List ℕ) → Option Refusal
refusal_of_elements symbols Permissions elements = refuse_if (not (list_all (is_permission symbols) elements)) NotThere
refusal_of_elements symbols Numbers elements = refuse_if (not (list_all (λ element. is_some (span_of element)) elements)) NoNumber
refusal_of_elements symbols Booleans elements = refuse_if (list_any (is_missing symbols tables.Booleans) elements) NotThere
refusal_of_elements symbols other elements = refuse_if (list_any (is_missing symbols tables.Classes) elements) NotThere
