-- Transitions from domain to domain by the rules of a policy that count, after the manual page of sedta of SETools. The permissions setexec and setcurrent are those of a domain
-- to itself, as the kernel asks, where SETools takes a rule of the domain to any type.
use Rattle.std.specs.Prelude.{ℕ, Bool, ◌&&◌, ◌||◌, List}
use Rattle.std.specs.List.{filter, list_any, range_with_len}
use Rattle.counted_rules.specs.CountedRules.{Counted}
use Rattle.rules_between.specs.ChosenRules.{rules_between}
use Rattle.pol_expand.specs.PlainTypes.{are_two_types}
use Rattle.rule_grants.specs.Grants.{grants}
use Rattle.rule_grants.specs.Names.{process, file, transition, dyntransition, setexec, setcurrent, execute, entrypoint}
use Rattle.dom_trans.specs.DefaultRules.{default_rules, has_default}

-- the type_transition rules that make the one type the domain of a process that the other starts from an entry type
abbrev pub defaults_between : Counted → ℕ → ℕ → ℕ → List ℕ
defaults_between rules a b entry = filter (has_default rules.policy b) (rules_between rules.policy (default_rules rules) a entry)

-- the domain of such a process is that type by default
abbrev pub is_default : Counted → ℕ → ℕ → ℕ → Bool
is_default rules a b entry = list_any (has_default rules.policy b) (rules_between rules.policy (default_rules rules) a entry)

-- A type is an entry from one domain to another: an entry point of the other that the one may execute, and the other is asked for by
-- setexec, or is the default.
unfoldable pub is_entry : Counted → ℕ → ℕ → ℕ → Bool
is_entry rules a b entry =
    grants rules b entry file entrypoint && grants rules a entry file execute && (grants rules a a process setexec || is_default rules a b entry)

-- all of them, rising
abbrev pub entries : Counted → ℕ → ℕ → List ℕ
entries rules a b = filter (is_entry rules a b) (range_with_len 1 rules.policy.symbols.types.nprim)

-- by executing a file: the transition is allowed, and there is an entry
unfoldable pub is_standard : Counted → ℕ → ℕ → Bool
is_standard rules a b =
    are_two_types rules.policy a b && grants rules a b process transition && list_any (is_entry rules a b) (range_with_len 1 rules.policy.symbols.types.nprim)

-- without one: the dynamic transition is allowed, and so is setcurrent
unfoldable pub is_dynamic : Counted → ℕ → ℕ → Bool
is_dynamic rules a b = are_two_types rules.policy a b && grants rules a b process dyntransition && grants rules a a process setcurrent

-- in one of these ways
abbrev pub is_transition : Counted → ℕ → ℕ → Bool
is_transition rules a b = is_standard rules a b || is_dynamic rules a b
