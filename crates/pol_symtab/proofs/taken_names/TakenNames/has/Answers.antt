use Rattle.std.proofs.Common.{rules, ◌∙◌}
use Rattle.pol_symtab.proofs.TakenNames.{any_name}
use Rattle.pol_symtab.proofs.TakenOrder.{found_in_set}
use Rattle.pol_symtab.proofs.taken_names.TakenNames.has.Goals as goal

pub returns-then-not-self : goal.returns-then-not-self
returns-then-not-self c =
    rw (← c.self.view_is) (c.contains.ensures ∙ any_name c.args.name.now c.self.inside.set.keys ∙ found_in_set _ _ _ _ _ _ (search rules) c.self.invariant c.args.name.now)

pub returns : goal.returns
returns c = rw (← c.self.view_is) (c.is_among.ensures ∙ rw c.deref.ensures.value (any_name c.args.name.now c.self.inside.names.items))
