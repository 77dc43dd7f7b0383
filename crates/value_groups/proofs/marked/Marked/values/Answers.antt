use Rattle.std.proofs.Common.{◌<◌, subst}
use Rattle.std.specs.List.{All}
use Rattle.value_groups.specs.Inner.Marking.{MarkedValues}
use Rattle.value_groups.proofs.marked.Marked.values.Goals as goal

pub returns-clause-within : goal.returns-clause-within
returns-clause-within c = subst (λ (m : MarkedValues). All (λ value. value < m.count) m.values) c.self.view_is c.self.invariant.within
