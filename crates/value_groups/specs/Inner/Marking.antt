-- Values that are gathered with a mark for each.
use Rattle.std.specs.Prelude.{◌≡◌, ℕ, ◌<◌, false, List, [], ◌∷◌, ◌++◌, if◌then◌else◌}
use Rattle.std.specs.List.{All}
use Rattle.value_groups.specs.Among.{is_among}

-- What a caller sees: the values, and the number that they are below.
pub record MarkedValues : Type 0 where
  pub count : ℕ
  pub values : List ℕ

-- a value added, unless it is there
abbrev pub with_value : List ℕ → ℕ → List ℕ
with_value values value = if is_among values value then values else values ++ value ∷ []

-- no value stands behind itself
abbrev pub AreApart : List ℕ → Type 0
AreApart [] = Unit {0}
AreApart (value ∷ values) = (is_among values value ≡ false) × AreApart values

-- The marked values are those that were added, each of them below the count, and once.
pub record AreMarked (marks : MarkedValues) (values : List ℕ) : Type 0 where
  pub each : (value : ℕ) → is_among marks.values value ≡ is_among values value
  pub within : All (λ value. value < marks.count) values
  pub apart : AreApart values
