use Rattle.std.proofs.Common.{◌≡◌, ◌+◌, ◌*◌, true, sym, ap, ◌∙◌, below_more, arith}
use Rattle.pol_cursor.specs.Inner.EvenPlaces.{even_places}
use Rattle.pol_avtab.specs.AvRecord.{is_kind, specified_in}
use Rattle.pol_avtab.proofs.EvenRules.{words_more}
use Rattle.pol_avtab.proofs.KeyOrder.{rising_more}
use Rattle.pol_avtab.proofs.even_rules.look_over.Goals as goal
use Rattle.pol_avtab.proofs.even_rules.look_over.Goals.{then-rising, else-rising}

pub loop-i-init : goal.loop-i-init
unfolding even_places
loop-i-init c = (λ j lt. absurd (omega (arith, lt)), λ e. c.first-last.ensures)

pub loop-i-preserved : goal.loop-i-preserved
loop-i-preserved c =
    let kind : is_kind 0 (specified_in c.args.bytes.now (c.args.place + c.loop-i.i * 12)) ≡ true = ap (is_kind 0) (sym c.u16_in.ensures) ∙ sym c.is_plain_kind.ensures ∙ c.if-not-is_plain_kind.false in (
      below_more _ _ c.loop-i.invariant.0 kind,
      elim c.if-rising.branch [
        | then-rising w ↦ λ rising. rw (w.last-is, words_more c.args.bytes.now c.args.place c.loop-i.i kind) (
            rising_more c.loop-i.last _ _ _ (c.loop-i.invariant.1 w.if-rising.true) (rw (← w.u64_in.ensures) (w.follow-rising.ensures (sym w.rising-is ∙ rising))))
        | else-rising w ↦ λ rising. absurd cc
      ],
    )
