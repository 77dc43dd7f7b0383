use Rattle.std.proofs.Common.{◌≡◌, ◌^◌, ◌<◌, take}
use Rattle.perm_map.specs.MapFields.{decimal}
use Rattle.perm_map.proofs.numbers.decimal.Given as goal

abbrev pub invariant-loop-digit : goal.invariant-loop-digit
invariant-loop-digit l = (l.number ≡ decimal (take l.digit-index l.digits)) × (l.number < 10 ^ l.digit-index)
