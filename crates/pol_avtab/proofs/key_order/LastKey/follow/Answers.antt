use Rattle.std.proofs.Common.{ℕ, sym, subst, arith}
use Rattle.pol_avtab.specs.Inner.DuplicateKeys.{slot_of, kind_bit, Follows}
use Rattle.pol_avtab.proofs.KeyOrder.{follows_behind, slot_behind}
use Rattle.pol_avtab.proofs.key_order.LastKey.follow.Goals as goal

pub returns-then-slot-self : goal.returns-then-slot-self
returns-then-slot-self c = λ e.
    let slot = c.slot_of-slot.ensures in
    subst (λ (n : ℕ). Follows c.args.self.now c.args.word (record { slot = n; word = c.args.word; kinds = kind_bit c.args.word })) (sym slot)
    (follows_behind c.args.self.now c.args.word (slot_behind (slot_of c.args.word) c.args.self.now.slot c.args.word c.args.self.now.word (omega (arith, slot, c.if-slot-self.true))))
