-- The rules behind a transition.
use Rattle.std.specs.Prelude.{ℕ, List, [], map, if◌then◌else◌}
use Rattle.counted_rules.specs.CountedRules.{Counted}
use Rattle.rules_between.specs.ChosenRules.{rules_between}
use Rattle.dom_trans.specs.declared.reasons.EntryReason.{EntryReason}
use Rattle.dom_trans.specs.declared.reasons.Reasons.{Reasons}
use Rattle.rule_grants.specs.Grants.{granting_rules}
use Rattle.rule_grants.specs.Names.{process, file, transition, dyntransition, setexec, setcurrent, execute, entrypoint}
use Rattle.dom_trans.specs.Transitions.{defaults_between, entries, is_standard, is_dynamic}

-- the rules that count and give a permission of a class to a type, on another type, in the order in which rules are listed
abbrev pub grants_between : Counted → ℕ → ℕ → List ℕ → List ℕ → List ℕ
grants_between rules source target class name = rules_between rules.policy (granting_rules rules class name) source target

-- the reasons of an entry type
unfoldable pub entry_reason : Counted → ℕ → ℕ → ℕ → EntryReason
entry_reason rules a b entry = record {
  entry = entry;
  entrypoint = grants_between rules b entry file entrypoint;
  execute = grants_between rules a entry file execute;
  default = defaults_between rules a b entry;
}

-- All of them. A way of transition that does not hold has none.
unfoldable pub reasons_between : Counted → ℕ → ℕ → Reasons
reasons_between rules a b = record {
  transition = if is_standard rules a b then grants_between rules a b process transition else [];
  setexec = if is_standard rules a b then grants_between rules a a process setexec else [];
  entries = if is_standard rules a b then map (entry_reason rules a b) (entries rules a b) else [];
  dyntransition = if is_dynamic rules a b then grants_between rules a b process dyntransition else [];
  setcurrent = if is_dynamic rules a b then grants_between rules a a process setcurrent else [];
}
