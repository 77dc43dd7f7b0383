use Rattle.std.proofs.Common.{◌-◌, ◌<◌, length, slice_index_or, sym, ap, ◌∙◌, arith}
use Rattle.pol_bitmap.specs.Nodes.{bits_of}
use Rattle.numbered_rules.proofs.SetFacts.{set_at}
use Rattle.numbered_rules.proofs.UnionSteps.{first_step, next_step}
use Rattle.numbered_rules.proofs.sets.union_of.Goals as goal

pub sets-init : goal.sets-init
sets-init c =
    let some : 0 < length c.args.sets.now = omega (arith, c.if-sets-eq0.false) in (
      omega arith,
      c.in_ok-union.ensures.form,
      first_step c.args.pool.now c.args.sets.now 0 c.in_ok-union.union some c.in_ok-union.ensures.form (ap bits_of c.in_ok-union.ensures.same ∙ sym (set_at c.args.pool.now (slice_index_or c.args.sets.now (length c.args.sets.now - 1) 0) c.get.result.now c.get.ensures)),
    )

pub sets-preserved : goal.sets-preserved
sets-preserved c =
    let some : 0 < c.sets.left = omega (arith, c.sets-test.true) in (
      omega (arith, c.sets.invariant.0),
      c.in_ok-union-2.ensures.form,
      next_step c.args.pool.now c.args.sets.now c.sets.left 0 c.get-in-sets.result.now c.sets.union c.in_ok-union-2.union some c.sets.invariant.0 c.in_ok-union-2.ensures.form
          (sym (set_at c.args.pool.now (slice_index_or c.args.sets.now (c.sets.left - 1) 0) c.get-in-sets.result.now c.get-in-sets.ensures)) c.in_ok-union-2.ensures.bits c.sets.invariant.2,
    )
