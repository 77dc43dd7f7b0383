-- The rules of a policy that count where states of booleans are stated, and the words that name no boolean in these.
use Rattle.std.specs.Prelude.{ℕ, List, option_map, Option, Some, None}
use Rattle.std.specs.List.{filter_map}
use Rattle.pol_fields.specs.declared.TableKind.TheVariants.{Booleans}
use Rattle.pol_file.specs.declared.Parts.{Parts}
use Rattle.pol_symbols.specs.PolicySymbols.{value_in}
use Rattle.pol_symbols.specs.declared.Symbols.{Symbols}
use Rattle.bool_state.specs.BooleanStates.{true_booleans}
use Rattle.bool_state.specs.declared.Given.{Given}
use Rattle.counted_rules.specs.CountedRules.{Counted, all_rules, rules_under}
use Rattle.se_words.specs.Options.{Named}
use Rattle.se_words.specs.States.{State}
use Rattle.se_status.specs.LeastWord.{least, least_number}
use Rattle.se_walks.specs.TypeNames.{first_unknown, word_unless}

-- the value of the boolean that a state names
abbrev pub boolean_named : Symbols → State → Option ℕ
boolean_named symbols state = value_in symbols Booleans state.name.text

-- the number of the word of a state, unless it names a boolean
abbrev pub unknown_state : Symbols → State → Option ℕ
unknown_state symbols state = word_unless (boolean_named symbols state) state.name.word

-- the least number of such a word, where states are stated
abbrev pub first_unknown_state : Symbols → Option (List State) → Option ℕ
first_unknown_state symbols None = None
first_unknown_state symbols (Some states) = least_number (unknown_state symbols) states

-- the least number of a word that names no type, or no boolean
abbrev pub first_unknown_name : Parts → List Named → Option (List State) → Option ℕ
first_unknown_name policy types states = least (first_unknown policy types) (first_unknown_state policy.symbols states)

-- a state by the value of its boolean
abbrev pub given_by : Symbols → State → Option Given
given_by symbols state = option_map (λ value. record { value = value; on = state.on }) (boolean_named symbols state)

-- the states that name booleans, by their values
abbrev pub given_states : Symbols → List State → List Given
given_states symbols states = filter_map (given_by symbols) states

-- All rules where no states are stated. Else those that are enabled where each boolean has the last state that is stated for it, and the
-- stored one where none is.
unfoldable pub rules_asked : Parts → Option (List State) → Counted
rules_asked policy None = all_rules policy
rules_asked policy (Some states) = rules_under policy (true_booleans (given_states policy.symbols states) policy.symbols.booleans.records)
