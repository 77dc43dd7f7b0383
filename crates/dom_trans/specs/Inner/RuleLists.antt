-- The rules that transitions rest on, each list as chosen rules. It serves the code alone.
use Rattle.std.specs.Prelude.{◌≡◌, ℕ, ◌<◌, ◌^◌, Bool, true, ◌&&◌, List, [], ◌∷◌, length, map}
use Rattle.std.specs.List.{All, filter}
use Rattle.pol_bitmap.specs.declared.Node.{Node}
use Rattle.pol_bitmap.specs.Nodes.{bits_of}
use Rattle.pol_file.specs.declared.Parts.{Parts}
use Rattle.counted_rules.specs.CountedRules.{Counted}
use Rattle.rules_between.specs.ChosenRules.{ChosenRules}
use Rattle.pol_expand.specs.JoinedTypes.{is_between_types, targets_from}
use Rattle.pol_expand.specs.PlainTypes.{are_two_types}
use Rattle.dom_trans.specs.declared.grant.Grant.{Grant}
use Rattle.dom_trans.specs.declared.grant.Grant.TheVariants.{Transition, Dyntransition, Setexec, Setcurrent, Execute, Entrypoint, Default}
use Rattle.rule_grants.specs.Grants.{granting_rules, grants}
use Rattle.rule_grants.specs.Names.{process, file, transition, dyntransition, setexec, setcurrent, execute, entrypoint}
use Rattle.dom_trans.specs.DefaultRules.{default_rules, has_default}

-- chosen rules of a policy
abbrev pub chosen : Parts → List ℕ → ChosenRules
chosen policy rules = record { policy = policy; rules = rules }

-- the ends of some rules are types and attributes, and the rules are few
pub record HaveTypeEnds (policy : Parts) (numbers : List ℕ) : Type 0 where
  pub types : All (λ number. is_between_types policy number ≡ true) numbers
  pub few : length numbers < 2 ^ 32

-- the rules of each list
abbrev pub rules_of : Counted → Grant → List ℕ
rules_of rules Transition = granting_rules rules process transition
rules_of rules Dyntransition = granting_rules rules process dyntransition
rules_of rules Setexec = granting_rules rules process setexec
rules_of rules Setcurrent = granting_rules rules process setcurrent
rules_of rules Execute = granting_rules rules file execute
rules_of rules Entrypoint = granting_rules rules file entrypoint
rules_of rules Default = default_rules rules

-- the rules that set a type as the default domain
abbrev pub rules_to : Counted → ℕ → List ℕ
rules_to rules b = filter (has_default rules.policy b) (default_rules rules)

-- the place of a list among all
abbrev pub place_of : Grant → ℕ
place_of Transition = 0
place_of Dyntransition = 1
place_of Setexec = 2
place_of Setcurrent = 3
place_of Execute = 4
place_of Entrypoint = 5
place_of Default = 6

-- all lists
abbrev pub rule_lists : Counted → List ChosenRules
rule_lists rules =
    map (λ grant. chosen rules.policy (rules_of rules grant)) (Transition ∷ Dyntransition ∷ Setexec ∷ Setcurrent ∷ Execute ∷ Entrypoint ∷ Default ∷ [])

-- What a type may do, whatever the other domain is.
pub record IsSourceOf (rules : Counted) (a : ℕ) (executable : List Node) (sets_exec sets_current : Bool) : Type 0 where
  pub executes : bits_of executable ≡ targets_from rules.policy (granting_rules rules file execute) a
  pub asks : sets_exec ≡ grants rules a a process setexec
  pub changes : sets_current ≡ grants rules a a process setcurrent

-- a type may change to another by executing a file, where there is an entry
abbrev pub is_allowed : Counted → ℕ → ℕ → Bool
is_allowed rules a b = are_two_types rules.policy a b && grants rules a b process transition
