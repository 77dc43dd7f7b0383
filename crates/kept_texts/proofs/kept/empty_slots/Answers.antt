use Rattle.kept_texts.proofs.KeptSlots.{one_more, one_longer}
use Rattle.kept_texts.proofs.kept.empty_slots.Goals as goal

pub slots-preserved : goal.slots-preserved
slots-preserved c =
    (one_longer c.slots._number c.slots.slots.items c.push.new.self.items c.in_ok-push.ensures.items c.slots.invariant.0, λ text. one_more text c.slots.slots.items c.push.new.self.items c.in_ok-push.ensures.items (c.slots.invariant.1 text))
