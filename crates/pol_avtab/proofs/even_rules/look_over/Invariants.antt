use Rattle.std.proofs.Common.{◌≡◌, ◌<◌, ◌+◌, ◌*◌, ℕ, true}
use Rattle.pol_avtab.specs.AvRecord.{is_kind, specified_in}
use Rattle.pol_avtab.specs.Inner.EvenRules.{even_rules}
use Rattle.pol_avtab.specs.Inner.DuplicateKeys.{words_of, AreRising}
use Rattle.pol_avtab.proofs.even_rules.look_over.Given as goal

-- all before are of such kinds, and, if they rise so far, the last key is theirs
abbrev pub invariant-loop-i : goal.invariant-loop-i
invariant-loop-i l = ((j : ℕ) → j < l.i → is_kind 0 (specified_in l.bytes (l.place + j * 12)) ≡ true) × (l.rising ≡ true → AreRising l.last (words_of (even_rules l.bytes l.place l.i)))
