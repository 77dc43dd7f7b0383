-- The rules that a graph of transitions keeps. It serves the code alone.
use Rattle.std.specs.Prelude.{◌≡◌, ℕ, Bool, ◌||◌, List, [], ◌∷◌, ◌++◌, if◌then◌else◌}
use Rattle.std.specs.List.{filter, range_with_len}
use Rattle.pol_fields.specs.declared.TableKind.TheVariants.{Classes}
use Rattle.pol_symbols.specs.declared.Symbols.{Symbols}
use Rattle.pol_symbols.specs.PolicySymbols.{value_in}
use Rattle.pol_read.specs.StoredRules.{StoredRule}
use Rattle.rules_between.specs.declared.RulesWithEnds.{RulesWithEnds}
use Rattle.pol_expand.specs.JoinedTypes.{rule_passes}
use Rattle.rules_between.specs.Inner.RuleTables.{AreEndsOf}
use Rattle.dom_trans.specs.declared.keeping.Wanted.{Wanted}
use Rattle.dom_trans.specs.declared.keeping.Kept.{Kept}
use Rattle.counted_rules.specs.CountedRules.{Counted}
use Rattle.rule_grants.specs.Grants.{counts_and, gives, permission_named}
use Rattle.rule_grants.specs.Names.{process, file, transition, dyntransition, setexec, setcurrent, execute, entrypoint}
use Rattle.dom_trans.specs.DefaultRules.{is_value, sets_default}

-- what rules are tested for: the permissions by name, and the classes of processes and of files
abbrev pub wanted_in : Symbols → Wanted
wanted_in symbols = record {
  transition = permission_named symbols process transition;
  dyntransition = permission_named symbols process dyntransition;
  setexec = permission_named symbols process setexec;
  setcurrent = permission_named symbols process setcurrent;
  execute = permission_named symbols file execute;
  entrypoint = permission_named symbols file entrypoint;
  process = value_in symbols Classes process;
  file = value_in symbols Classes file;
}

-- the class is one of these two
abbrev pub is_asked_class : Wanted → ℕ → Bool
is_asked_class wanted class = is_value wanted.process class || is_value wanted.file class

-- the first n rules, where they count and pass a test
abbrev pub kept_of : Counted → ℕ → (StoredRule → Bool) → List ℕ
kept_of rules n test = filter (rule_passes rules.policy (counts_and rules test)) (range_with_len 0 n)

-- The rules of a list are these, with their ends.
pub record IsKept (rules : Counted) (n : ℕ) (test : StoredRule → Bool) (list : RulesWithEnds) : Type 0 where
  pub numbers : list.rules.items ≡ kept_of rules n test
  pub ends : AreEndsOf rules.policy list.rules.items list.sources.items list.targets.items

-- The lists of those of the first n rules that count, and give each permission or set a default.
pub record AreKept (rules : Counted) (wanted : Wanted) (n : ℕ) (kept : Kept) : Type 0 where
  pub transition : IsKept rules n (gives wanted.transition) kept.transition
  pub dyntransition : IsKept rules n (gives wanted.dyntransition) kept.dyntransition
  pub setexec : IsKept rules n (gives wanted.setexec) kept.setexec
  pub setcurrent : IsKept rules n (gives wanted.setcurrent) kept.setcurrent
  pub execute : IsKept rules n (gives wanted.execute) kept.execute
  pub entrypoint : IsKept rules n (gives wanted.entrypoint) kept.entrypoint
  pub defaults : IsKept rules n (sets_default wanted.process) kept.defaults

-- A number is added where its rule passes.
abbrev pub GainsWhere : ℕ → Bool → List ℕ → List ℕ → Type 0
GainsWhere number passes old new = new ≡ old ++ (if passes then number ∷ [] else [])
