use Rattle.std.proofs.Common.{◌<◌, ◌≢◌, ◌∙◌, length, arith, length-set, get_or-set_other, get_or-set_same, below_more}
use Rattle.pol_avtab.proofs.key_order.ClassHashes.new.Goals as goal

pub loop-class-preserved : goal.loop-class-preserved
loop-class-preserved c = (
  length-set _ _ _ ∙ c.loop-class.invariant.0,
  below_more _ _
      (λ k h. let ne : k ≢ c.loop-class.class = omega arith in rw get_or-set_other (c.loop-class.invariant.1 k h))
      (let lt : c.loop-class.class < length c.loop-class.hashes = omega arith in rw get_or-set_same c.hashed.ensures),
)
