use Rattle.std.proofs.Common.{◌∙◌, IfOk, ℕ, List, refl, subst}
use Rattle.rule_singles.specs.Inner.EndSets.{IsNumberIn}
use Rattle.rule_singles.proofs.Pools.{other_ends, sets_stay}
use Rattle.rule_singles.proofs.end_sets.EndSets.number_of.Goals as goal

pub returns-in_ok-from_rising-in_default : goal.returns-in_ok-from_rising-in_default
returns-in_ok-from_rising-in_default c =
    let P : List ℕ → Type 0 = λ bits. IfOk c.keep.result (IsNumberIn c.keep.new.pool bits) in
    record {
      left = refl;
      grows = c.keep.ensures.grows;
      right = sets_stay 1 c.args.policy.now c.args.self.now.left c.args.pool.now c.keep.new.pool c.args.self.now.numbers.items c.keep.ensures.grows c.requires.right;
      number = subst P (c.in_ok-from_rising-in_default.ensures.bits ∙ other_ends c.args.policy.now c.args.self.now.left c.args.table c.args.value c.in_default.not-Types) c.keep.ensures.number;
    }
