use Rattle.std.proofs.Common.{◌≡◌, map, take}
use Rattle.pol_versions.proofs.declared.values_of_types.Given as goal

abbrev pub invariant-loop-record : goal.invariant-loop-record
invariant-loop-record l = l.values.items ≡ map (λ type. type.value) (take l.record-index l.types)
