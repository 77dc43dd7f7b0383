use Rattle.std.proofs.Common.{◌≡◌, ℕ, ◌+◌, length}
use Rattle.std.specs.Prelude.{◌||◌}
use Rattle.std.specs.List.{All, Contains, list_any}
use Rattle.pol_bitmap.specs.Nodes.{bits_of}
use Rattle.value_groups.specs.Among.{is_among}
use Rattle.dom_trans.specs.DefaultRules.{default_rules}
use Rattle.dom_trans.specs.Inner.Targets.{enters_by}
use Rattle.dom_trans.proofs.dom_rules.DomRules.entered_by_default.Given as goal

-- the defaults of the rules that are not left were added
abbrev pub invariant-loop-left : goal.invariant-loop-left
invariant-loop-left l =
    (l.found.count ≡ l.self.policy.symbols.types.nprim + 1)
    × All (Contains (default_rules l.self)) l.left
    × ((b : ℕ) → (is_among l.found.values b || list_any (enters_by l.self (bits_of l.source.executable) b) l.left) ≡ list_any (enters_by l.self (bits_of l.source.executable) b) l.initial.left)

abbrev pub decreases-loop-left : goal.decreases-loop-left
decreases-loop-left l = length l.left
