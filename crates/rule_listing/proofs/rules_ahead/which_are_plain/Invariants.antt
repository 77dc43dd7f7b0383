use Rattle.std.proofs.Common.{◌≡◌, length, map, take}
use Rattle.rule_listing.specs.ReadRules.{is_plain}
use Rattle.rule_listing.proofs.rules_ahead.which_are_plain.Given as goal

-- the rules of the numbers before are looked at
abbrev pub invariant-loop-place : goal.invariant-loop-place
invariant-loop-place l = (length l.plain ≡ 32) × (take l.place l.plain ≡ map (is_plain l.policy.rules.table) (take l.place l.numbers))
