use Rattle.std.proofs.Common.{refl, ◌∙◌}
use Rattle.pol_tree.specs.TreeShape.{shape_of_contexts}
use Rattle.pol_tree.proofs.tree_shape.wrong_in_contexts.Goals as goal

pub returns-clause-shape : goal.returns-clause-shape
unfolding shape_of_contexts
returns-clause-shape c =
    c.first_wrong.ensures
    ∙ rw (
      c.wrong_in.ensures.shape,
      c.wrong_in-2.ensures.shape,
      c.wrong_in-3.ensures.shape,
      c.wrong_in-4.ensures.shape,
      c.wrong_in-5.ensures.shape,
      c.wrong_in-6.ensures.shape,
      c.wrong_in-7.ensures.shape,
      c.wrong_list.ensures,
      c.wrong_in-8.ensures.shape,
      c.wrong_list-2.ensures,
      c.wrong_in-9.ensures.shape,
      c.has_infiniband-infiniband.ensures,
    ) refl
