-- What a tool is asked by the words after its name.
use Rattle.std.specs.Prelude.{◌≡◌, map, Vec, ℕ, ◌+◌, List, length, Option, Some, None, Result, Ok, Err, ⊤}
use Rattle.std.specs.Option.{ok_or}
use Rattle.std.specs.Global.{Global}
use Rattle.se_words.specs.Options.{Row, Group, group_view, groups_of}
use Rattle.se_words.specs.declared.groups.Group.{Group as GroupCode}
use Rattle.se_words.specs.Misfits.{first_misfit}
use Rattle.se_options.specs.declared.words_error.WordsError.{WordsError}
use Rattle.se_options.specs.declared.words_error.WordsError.TheVariants.{Usage, Memory}

-- What groups of words ask, by what the tool makes of them. Else the number of the first word that does not fit, or where all fit and
-- one is missing or options exclude each other, so that the tool makes nothing of them, the number of all words and one.
abbrev pub asked_of : {A : Type 0} → (List Group → Option A) → ℕ → List Group → Result A ℕ
asked_of asks_in words groups = elim (first_misfit groups) [
  | Some n ↦ Err n
  | None ↦ ok_or (asks_in groups) (words + 1)
]

-- what the words after the tool's name ask, by the tool's options, where so many words may be positional
abbrev pub asked_by : {A : Type 0} → List Row → ℕ → (List Group → Option A) → List (Option (List ℕ)) → Result A ℕ
asked_by rows free asks_in words = asked_of asks_in (length words + 1) (groups_of rows free words)

-- A result of the code, by what its value says, is what is asked, unless it is out of memory.
abbrev pub Says : {R A : Type 0} → (R → A) → Result R WordsError → Result A ℕ → Type 0
Says view (Ok request) asks = asks ≡ Ok (view request)
Says view (Err (Usage n)) asks = asks ≡ Err n
Says view (Err Memory) asks = ⊤

-- A result of the code is the groups, where all words fit, and else the first that does not, unless it is out of memory.
abbrev pub Fitting : Result (Vec GroupCode Global) WordsError → List Group → Type 0
Fitting (Ok found) groups = (map group_view found.items ≡ groups) × (first_misfit groups ≡ None)
Fitting (Err (Usage n)) groups = first_misfit groups ≡ Some n
Fitting (Err Memory) groups = ⊤
