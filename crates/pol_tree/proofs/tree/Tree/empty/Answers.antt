use Rattle.std.proofs.Common.{refl}
use Rattle.pol_tree.proofs.tree.Tree.empty.Goals as goal

pub returns-clause-rest : goal.returns-clause-rest
returns-clause-rest c = rw (
  c.nothing.ensures,
  c.nothing-2.ensures,
  c.nothing-3.ensures,
  c.nothing-4.ensures,
  c.nothing-5.ensures,
  c.nothing-6.ensures,
  c.nothing-7.ensures,
  c.nothing-8.ensures,
  c.nothing-9.ensures,
  c.nothing-10.ensures,
  c.nothing-11.ensures,
  c.nothing-12.ensures,
  c.nothing-13.ensures,
  c.nothing-14.ensures,
  c.nothing-15.ensures,
  c.nothing-16.ensures,
  c.nothing-17.ensures,
  c.nothing-18.ensures,
  c.nothing-19.ensures,
  c.nothing-20.ensures,
  c.nothing-21.ensures,
  c.nothing-22.ensures,
  c.nothing-23.ensures,
  c.nothing-24.ensures,
  c.nothing-25.ensures,
  c.nothing-26.ensures,
) refl
