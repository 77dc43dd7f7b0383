use Rattle.std.proofs.Common.{◌∙◌}
use Rattle.pol_tree.specs.TreeShape.{shape_of_labels}
use Rattle.pol_tree.proofs.Wrongs.{first_none, first_then, none_in}
use Rattle.pol_tree.proofs.tree_shape.wrong_in_labels.Goals as goal

pub returns-clause-shape : goal.returns-clause-shape
unfolding shape_of_labels
returns-clause-shape c =
    c.first_wrong.ensures
    ∙ rw (
      c.wrong_in_contexts.ensures.shape,
      c.wrong_in.ensures.shape,
      c.wrong_in-2.ensures.shape,
      c.wrong_where.ensures,
      c.len.ensures,
      c.wrong_in-3.ensures.shape ∙ none_in c.args.tree.now.typemap,
    ) (first_then _ _ _ (first_then _ _ _ (first_then _ _ _ (first_then _ _ _ (first_none _)))))
