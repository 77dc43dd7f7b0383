-- What make is asked, which is this project's own: a policy of so many types, for measurements and tests.
use Rattle.std.specs.Prelude.{ℕ, ◌+◌, ◌%◌, ◌==◌, List, [], ◌∷◌, codes, length, map, option_map, Bool, is_some, Option, Some, None, Result, if◌then◌else◌}
use Rattle.std.specs.Option.{option_and_then}
use Rattle.se_words.specs.Options.{Row, Group, Positional, Misfit, groups_of, switch}
use Rattle.se_words.specs.Given.{first_positional, is_given}
use Rattle.se_words.specs.Values.{number_within}
use Rattle.se_options.specs.Asked.{asked_of}
use Rattle.se_options.specs.declared.make_request.MakeRequest.{MakeRequest}

-- the options of make
unfoldable pub make_options : List Row
make_options = switch None (codes "--bytes") ∷ []

-- the number of types that a text is: from 200 to 5,000, and a multiple of 20
unfoldable pub types_in : List ℕ → Option ℕ
types_in text = option_and_then (λ types. if types % 20 == 0 then Some types else None) (number_within 200 5000 text)

-- a group, where a positional word that is no such number does not fit
abbrev pub counting : Group → Group
counting (Positional word) = if is_some (types_in word.text) then Positional word else Misfit word.word
counting group = group

-- the groups of the words after make's name, of which one may be positional
abbrev pub make_groups : List (Option (List ℕ)) → List Group
make_groups words = map counting (groups_of make_options 1 words)

-- what make is asked: a policy of so many types, by its bytes or else by its summary
pub record MakeAsks : Type 0 where
  pub types : ℕ
  pub bytes : Bool

-- how many types some groups of words say
abbrev pub asked_types : List Group → Option ℕ
asked_types groups = option_and_then (λ word. types_in word.text) (first_positional groups)

-- what they ask of make, if they do
abbrev pub make_in : List Group → Option MakeAsks
make_in groups = option_map (λ types. record { types = types; bytes = is_given (codes "--bytes") groups }) (asked_types groups)

-- what the words after make's name ask
abbrev pub make_asked : List (Option (List ℕ)) → Result MakeAsks ℕ
make_asked words = asked_of make_in (length words + 1) (make_groups words)

-- what a request of the code says
abbrev pub make_view : MakeRequest → MakeAsks
make_view asks = record { types = asks.types; bytes = asks.bytes }
