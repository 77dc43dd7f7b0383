use Rattle.std.proofs.Common.{sym}
use Rattle.rule_singles.proofs.Pools.{sets_more, sets_stay}
use Rattle.rule_singles.proofs.end_sets.EndSets.type_number.Goals as goal

pub returns-in-Some-clause-number : goal.returns-in-Some-clause-number
returns-in-Some-clause-number c = c.requires.right.each c.args.value c.in-Some.number (sym (rw c.deref.ensures.value at c.in-Some.ensures))

pub returns-in_err-number-clause-right : goal.returns-in_err-number-clause-right
returns-in_err-number-clause-right c = sets_stay 1 c.args.policy.now c.args.self.now.left c.args.pool.now c.keep.new.pool c.args.self.now.numbers.items c.keep.ensures.grows c.requires.right

pub returns-clause-right : goal.returns-clause-right
returns-clause-right c =
    sets_more c.args.policy.now c.args.self.now.left c.keep.new.pool c.args.self.now.numbers.items c.note.new.numbers.items c.args.value c.in_ok-number.number
    (sets_stay 1 c.args.policy.now c.args.self.now.left c.args.pool.now c.keep.new.pool c.args.self.now.numbers.items c.keep.ensures.grows c.requires.right)
    (rw c.in_ok-set.ensures at c.in_ok-number.ensures.number) c.note.ensures.same c.note.ensures.noted
