use Rattle.std.proofs.Common.{◌-◌, ◌*◌, ◌^◌, ◌≤◌, length, ap, arith}
use Rattle.std.proofs.Math.Nat.{pow-le-pow_right}
use Rattle.pol_avtab.specs.Inner.DuplicateKeys.{Marks, bucket_of}
use Rattle.pol_avtab.proofs.SharedWords.{bits_long, bucket_below}
use Rattle.pol_avtab.proofs.word_marks.WordMarks.place_of.Goals as goal

-- twice a bucket, and one more, is below the number of the bits
pub returns-clause-within : goal.returns-clause-within
unfolding bucket_of
returns-clause-within c =
    let below = bucket_below c.self.inside.shift c.args.word c.self.invariant.most in
    let long = bits_long c.self.inside.shift c.self.inside.bits.items c.self.invariant in
    let same = ap (λ (m : Marks). length m.bits) c.self.view_is in
    omega (arith, below, long, same)

pub returns-clause-is : goal.returns-clause-is
unfolding bucket_of
returns-clause-is c = ap (λ (m : Marks). 2 * bucket_of m.shift c.args.word) c.self.view_is

pub overflow_mul-result : goal.overflow_mul-result
unfolding bucket_of
overflow_mul-result c =
    let below = bucket_below c.self.inside.shift c.args.word c.self.invariant.most in
    let few : 2 ^ (64 - c.self.inside.shift) ≤ 2 ^ 63 = pow-le-pow_right {n = 2} (omega arith) {i = 64 - c.self.inside.shift} {j = 63} (omega (arith, c.self.invariant.least)) in
    omega (arith, below, few)
