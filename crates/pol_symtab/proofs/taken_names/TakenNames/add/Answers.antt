use Rattle.std.proofs.Common.{ℕ, List, Bor, sym, ◌∙◌}
use Rattle.std.proofs.lemmas.List.{map_push}
use Rattle.pol_symtab.proofs.TakenNames.{names_of}
use Rattle.pol_symtab.proofs.TakenOrder.{found_more}
use Rattle.pol_symtab.proofs.taken_names.TakenNames.add.Goals as goal

pub invariant_of-self-then-is_behind : goal.invariant_of-self-then-is_behind
invariant_of-self-then-is_behind c =
    let self = c.self.inside in
    let names = names_of self.names.items in
    let behind = sym c.is_behind.ensures ∙ c.if-is_behind.true in
    rw (c.in_ok-push.ensures.items, map_push (λ (n : Bor (List ℕ)). n.now) self.names.items c.args.name) (
    found_more self.rises self.mask self.last_slot c.slot_of-slot.result self.last.now c.args.name.now names (names_of self.set.keys) c.if-self.true c.slot_of-slot.ensures behind c.self.invariant
    )
