use Rattle.std.proofs.Common.{◌∙◌, sym, rules}
use Rattle.pol_avtab.proofs.HeldNumbers.{numbers_past, numbers_none, numbers_first}
use Rattle.pol_avtab.proofs.xnumbers.XNumbersIterator.next.Goals as goal

pub returns-then-self-gt65535-clause-steps : goal.returns-then-self-gt65535-clause-steps
returns-then-self-gt65535-clause-steps c =
    let n = c.self.inside in
    let none = sym c.self.view_is ∙ numbers_past n.perms n.next c.self.invariant c.if-self-gt65535.true in
    (none, none)

pub returns-in-None-clause-steps : goal.returns-in-None-clause-steps
returns-in-None-clause-steps c =
    let n = c.self.inside in
    let none = sym c.self.view_is ∙ numbers_none n.perms n.next c.self.invariant c.in-None.ensures.none in
    (none, none)

pub returns-in-Some-clause-steps : goal.returns-in-Some-clause-steps
returns-in-Some-clause-steps c =
    let n = c.self.inside in
    sym c.self.view_is ∙ numbers_first n.perms n.next c.self.invariant c.in-Some.number c.in-Some.ensures.some

pub returns-in-Some-clause-goes : goal.returns-in-Some-clause-goes
returns-in-Some-clause-goes c = rw (returns-in-Some-clause-steps c) (search rules)
