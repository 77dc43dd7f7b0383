-- The rules behind a transition, list by list.
use Rattle.std.proofs.Common.{◌≡◌, ℕ, Bool, true, false, List, [], map, refl, sym, ap, ◌∙◌}
use Rattle.std.specs.Prelude.{if◌then◌else◌}
use Rattle.counted_rules.specs.CountedRules.{Counted}
use Rattle.dom_trans.specs.declared.reasons.EntryReason.{EntryReason}
use Rattle.dom_trans.specs.declared.reasons.Reasons.{Reasons}
use Rattle.rule_grants.specs.Names.{process, file, transition, dyntransition, setexec, setcurrent, execute, entrypoint}
use Rattle.dom_trans.specs.Transitions.{defaults_between, entries, is_standard, is_dynamic}
use Rattle.dom_trans.specs.ReasonLists.{grants_between, entry_reason, reasons_between}

pub entry_is : (rules : Counted) (a b entry : ℕ) (points executes defaults : List ℕ) → points ≡ grants_between rules b entry file entrypoint → executes ≡ grants_between rules a entry file execute → defaults ≡ defaults_between rules a b entry
    → ◌≡◌ {A = EntryReason} (record { entry = entry; entrypoint = points; execute = executes; default = defaults }) (entry_reason rules a b entry)
unfolding entry_reason
entry_is rules a b entry points executes defaults e f g = rw (e, f, g) refl

pub reasons_are : (rules : Counted) (a b : ℕ) (standard dynamic : Bool) (moves asks turns changes : List ℕ) (all : List EntryReason) → standard ≡ is_standard rules a b → dynamic ≡ is_dynamic rules a b
    → moves ≡ (if standard then grants_between rules a b process transition else [])
    → asks ≡ (if standard then grants_between rules a a process setexec else [])
    → all ≡ (if standard then map (entry_reason rules a b) (entries rules a b) else [])
    → turns ≡ (if dynamic then grants_between rules a b process dyntransition else [])
    → changes ≡ (if dynamic then grants_between rules a a process setcurrent else [])
    → ◌≡◌ {A = Reasons} (record { transition = moves; setexec = asks; entries = all; dyntransition = turns; setcurrent = changes }) (reasons_between rules a b)
unfolding reasons_between
reasons_are rules a b standard dynamic moves asks turns changes all s d m k l t h = rw (m, k, l, t, h, s, d) refl

-- what is said of entries, where there are some
pub entries_listed : (rules : Counted) (a b : ℕ) (standard : Bool) (found : List ℕ) → standard ≡ is_standard rules a b → found ≡ (if is_standard rules a b then entries rules a b else [])
    → map (entry_reason rules a b) found ≡ (if standard then map (entry_reason rules a b) (entries rules a b) else [])
entries_listed rules a b standard found same is =
    ap (map (entry_reason rules a b)) is ∙ one (is_standard rules a b) ∙ ap (λ (t : Bool). if t then map (entry_reason rules a b) (entries rules a b) else []) (sym same)
  where
    one : (t : Bool) → map (entry_reason rules a b) (if t then entries rules a b else []) ≡ (if t then map (entry_reason rules a b) (entries rules a b) else [])
    one true = refl
    one false = refl
