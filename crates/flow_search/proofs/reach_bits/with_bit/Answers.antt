use Rattle.std.proofs.Common.{sym, ◌∙◌}
use Rattle.std.proofs.lemmas.Bool.{false≢true}
use Rattle.flow_search.proofs.Masks.{with_more, with_none}
use Rattle.flow_search.proofs.reach_bits.with_bit.Goals as goal
use Rattle.flow_search.proofs.reach_bits.with_bit.Goals.{else-belongs-via-then-belongs+else-place-lt32, else-belongs-via-else-belongs}

pub returns-then-place-lt32 : goal.returns-then-place-lt32
returns-then-place-lt32 c = λ mask small. with_more mask c.args.bits c.bit_of.result c.args.place c.args.belongs c.bit_of.ensures c.if-belongs.true

pub returns-else-belongs : goal.returns-else-belongs
returns-else-belongs c = λ mask small. elim c.else-belongs.branch [
  | else-belongs-via-then-belongs+else-place-lt32 w ↦ with_none mask c.args.bits c.args.place c.args.belongs small (λ e. w.if-place-lt32.false)
  | else-belongs-via-else-belongs w ↦ with_none mask c.args.bits c.args.place c.args.belongs small (λ e. absurd (false≢true (sym w.if-belongs.false ∙ e)))
]
