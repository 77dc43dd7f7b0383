use Rattle.std.proofs.Common.{◌≡◌, ◌+◌, [], take}
use Rattle.pol_expand.specs.JoinedTypes.{holds_type}
use Rattle.value_groups.proofs.Adding.{AddedFront}
use Rattle.pol_expand.proofs.stored_ends.types_of_all.Given as goal

abbrev pub invariant-loop-end : goal.invariant-loop-end
invariant-loop-end l = (l.found.count ≡ l.policy.symbols.types.nprim + 1) × AddedFront (λ type end. holds_type l.policy end type) (take l.end-index l.ends) [] l.found.values
