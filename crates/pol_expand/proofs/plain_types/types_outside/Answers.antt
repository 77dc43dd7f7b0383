use Rattle.std.proofs.Common.{◌≡◌, List, ℕ, IfOk, sym, subst, ◌∙◌}
use Rattle.std.specs.List.Sorted.{IsStrictlyIncreasing}
use Rattle.pol_bitmap.specs.declared.Node.{Node}
use Rattle.pol_bitmap.specs.Nodes.{bits_of}
use Rattle.pol_expand.proofs.TypesOutside.{outside_rises}
use Rattle.pol_expand.proofs.plain_types.types_outside.Goals as goal

pub from_rising-requires : goal.from_rising-requires
from_rising-requires c = subst IsStrictlyIncreasing (sym (c.deref.ensures.value ∙ c.in_ok-values.ensures)) (outside_rises c.args.policy.now c.args.excluded.now)

pub returns : goal.returns
returns c = subst (λ (xs : List ℕ). IfOk c.from_rising.result (λ (set : List Node). bits_of set ≡ xs)) (c.deref.ensures.value ∙ c.in_ok-values.ensures) c.from_rising.ensures.bits
