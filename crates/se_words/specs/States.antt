-- What the value of an option says of booleans: a list of states, parted by commas.
use Rattle.std.specs.Prelude.{ℕ, List, codes, option_map, Bool, true, false, Option, Some, None}
use Rattle.std.specs.List.{filter_map, slice_split}
use Rattle.se_words.specs.Options.{Named, Group, named, named_view}
use Rattle.se_words.specs.Given.{given_value}
use Rattle.se_words.specs.Values.{is_comma, name_before}
use Rattle.se_words.specs.declared.states.State.{State as StateCode}

-- a boolean, by its name in the word of the value, is on or off
pub record State : Type 0 where
  pub name : Named
  pub on : Bool

abbrev pub state : List ℕ → ℕ → Bool → State
state name word on = record { name = named name word; on = on }

-- that, by the name before `=on`, if there is one, or that before `=off`
abbrev pub state_by : Option (List ℕ) → Option (List ℕ) → ℕ → Option State
state_by (Some name) off word = Some (state name word true)
state_by None (Some name) word = Some (state name word false)
state_by None None word = None

-- the state that an element says
unfoldable pub state_in : ℕ → List ℕ → Option State
state_in word text = state_by (name_before (codes "=on") text) (name_before (codes "=off") text) word

-- the states that a value says, in the order of its elements
unfoldable pub states_in : Named → List State
states_in value = filter_map (state_in value.word) (slice_split is_comma value.text)

-- the states that the value of an option says, if it is given one
abbrev pub given_states : List ℕ → List Group → Option (List State)
given_states option groups = option_map states_in (given_value option groups)

-- what the code's values say
abbrev pub state_view : StateCode → State
state_view said = record { name = named_view said.name; on = said.on }
