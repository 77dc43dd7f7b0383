use Rattle.std.proofs.Common.{ℕ, subst, arith}
use Rattle.pol_avtab.specs.Inner.DuplicateKeys.{kind_bit, Follows}
use Rattle.pol_avtab.proofs.KeyOrder.{follows_behind, follows_beside}
use Rattle.pol_avtab.proofs.key_order.LastKey.follow_in_slot.Goals as goal

pub returns-then-place-last : goal.returns-then-place-last
returns-then-place-last c = λ e.
    subst (λ (n : ℕ). Follows c.args.self.now c.args.word (record { slot = n; word = c.args.word; kinds = kind_bit c.args.word })) c.requires
    (follows_behind c.args.self.now c.args.word (omega (arith, c.requires, c.place_in_slot-place.ensures, c.place_in_slot-last.ensures, c.if-place-last.true)))

pub returns : goal.returns
returns c = λ e.
    follows_beside c.args.self.now c.args.word (omega (arith, c.requires, c.place_in_slot-place.ensures, c.place_in_slot-last.ensures, c.if-place-last.false, c.if-place-last-2.false)) c.if-self-kind.false
