use Rattle.std.proofs.Common.{◌*◌, ◌∙◌, ap, sym, arith, ℕ}
use Rattle.pol_avtab.proofs.HeldNumbers.{next_of_driver, none_of_driver, this_driver, next_driver, no_driver}
use Rattle.pol_avtab.proofs.xperms.XPerms.next_from.Goals as goal

pub returns-in_err-next_bit-clause-none : goal.returns-in_err-next_bit-clause-none
returns-in_err-next_bit-clause-none c =
    rw c.from_residual.ensures (none_of_driver c.args.self.now (sym c.xkind.ensures ∙ c.if-xkind-eq-AVTAB_XPERMS_IOCTLFUNCTION.true) c.args.number (c.driver.result * 256) (ap (λ (n : ℕ). n * 256) c.driver.ensures) (rw c.saturating_sub.ensures at c.in_err-next_bit.ensures.none))

pub returns-in_ok-next_bit-clause-some : goal.returns-in_ok-next_bit-clause-some
returns-in_ok-next_bit-clause-some c =
    next_of_driver c.args.self.now (sym c.xkind.ensures ∙ c.if-xkind-eq-AVTAB_XPERMS_IOCTLFUNCTION.true) c.args.number (c.driver.result * 256) (ap (λ (n : ℕ). n * 256) c.driver.ensures) c.in_ok-next_bit.field-0 (omega (arith, c.driver.ensures, c.driver.type_inv)) (rw c.saturating_sub.ensures at c.in_ok-next_bit.ensures.some)

pub returns-then-has_bit-clause-some : goal.returns-then-has_bit-clause-some
returns-then-has_bit-clause-some c = this_driver c.args.self.now (λ e. c.if-xkind-eq-AVTAB_XPERMS_IOCTLFUNCTION.false (c.xkind.ensures ∙ e)) c.args.number (omega (arith, c.ranges.number.fits)) (sym c.if-has_bit.ensures)

pub returns-in_err-next_bit-2-clause-none : goal.returns-in_err-next_bit-2-clause-none
returns-in_err-next_bit-2-clause-none c =
    rw c.from_residual-in_err-next_bit-2.ensures (no_driver c.args.self.now (λ e. c.if-xkind-eq-AVTAB_XPERMS_IOCTLFUNCTION.false (c.xkind.ensures ∙ e)) c.args.number (sym c.has_bit.ensures ∙ c.if-has_bit.false) c.in_err-next_bit-2.ensures.none)

pub returns-in_ok-next_bit-2-clause-some : goal.returns-in_ok-next_bit-2-clause-some
returns-in_ok-next_bit-2-clause-some c = next_driver c.args.self.now (λ e. c.if-xkind-eq-AVTAB_XPERMS_IOCTLFUNCTION.false (c.xkind.ensures ∙ e)) c.args.number (sym c.has_bit.ensures ∙ c.if-has_bit.false) c.in_ok-next_bit-2.field-0 c.in_ok-next_bit-2.ensures.some
