use Rattle.rule_listing.proofs.KeptSlots.{one_more, one_longer}
use Rattle.rule_listing.proofs.kept_texts.empty_slots.Goals as goal

pub slots-preserved : goal.slots-preserved
slots-preserved c =
    (one_longer c.slots._number c.slots.slots.items c.push.new.self.items c.in_ok-push.ensures.items c.slots.invariant.0, λ policy. one_more policy c.slots.slots.items c.push.new.self.items c.in_ok-push.ensures.items (c.slots.invariant.1 policy))
