-- The entry points of a domain from which a type may change to it, as they are found. It serves the code alone.
use Rattle.std.specs.Prelude.{◌≡◌, ℕ, Bool, true, ◌&&◌, ◌↔◌, List}
use Rattle.std.specs.List.{Contains, filter, range_with_len}
use Rattle.counted_rules.specs.CountedRules.{Counted}
use Rattle.rules_between.specs.ChosenRules.{begins_at}
use Rattle.rule_grants.specs.Grants.{grants}
use Rattle.rule_grants.specs.Names.{file, execute, entrypoint}
use Rattle.dom_trans.specs.DefaultRules.{default_rules, has_default}
use Rattle.dom_trans.specs.Transitions.{is_default}

-- an entry point of the other that the one may execute
abbrev pub is_executable_point : Counted → ℕ → ℕ → ℕ → Bool
is_executable_point rules a b entry = grants rules b entry file entrypoint && grants rules a entry file execute

-- all of them, rising
unfoldable pub executable_points : Counted → ℕ → ℕ → List ℕ
executable_points rules a b = filter (is_executable_point rules a b) (range_with_len 1 rules.policy.symbols.types.nprim)

-- the executable points from which a process that the one starts has the other as its default domain, rising
unfoldable pub default_points : Counted → ℕ → ℕ → List ℕ
default_points rules a b = filter (λ entry. is_executable_point rules a b entry && is_default rules a b entry) (range_with_len 1 rules.policy.symbols.types.nprim)

-- Some rules are those of the one type that set the other as a default domain.
pub record AreDefaultsFrom (rules : Counted) (a b : ℕ) (found : List ℕ) : Type 0 where
  pub each : (number : ℕ) → Contains found number ↔ (Contains (default_rules rules) number × (begins_at rules.policy a number ≡ true) × (has_default rules.policy b number ≡ true))
