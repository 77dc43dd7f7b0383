use Rattle.pol_symtab.proofs.TakenBits.{none_marked}
use Rattle.pol_symtab.proofs.taken_values.TakenValues.new.Goals as goal

pub invariant_of-result : goal.invariant_of-result
invariant_of-result c = rw (c.new.ensures.items, c.new-2.ensures.items) none_marked
