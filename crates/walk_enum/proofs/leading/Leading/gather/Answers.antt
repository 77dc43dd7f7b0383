use Rattle.std.proofs.Common.{inl, inr}
use Rattle.walk_enum.proofs.leading.Leading.gather.Goals as goal

pub returns : goal.returns
returns c = record {
  set = λ n has. (c.in_ok-self.ensures.bits.each n).1 (inl has);
  cases = inl ((λ n has. (c.in_ok-self.ensures.bits.each n).1 (inr (c.in_ok-others.ensures n has))), c.clear.ensures.items);
}
