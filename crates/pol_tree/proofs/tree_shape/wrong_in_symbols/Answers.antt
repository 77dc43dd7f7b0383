use Rattle.std.proofs.Common.{◌∙◌}
use Rattle.pol_tree.specs.TreeShape.{shape_of_symbols}
use Rattle.pol_tree.proofs.Wrongs.{first_none, first_then, none_in}
use Rattle.pol_tree.proofs.tree_shape.wrong_in_symbols.Goals as goal

pub returns-clause-shape : goal.returns-clause-shape
unfolding shape_of_symbols
returns-clause-shape c =
    let tree = c.args.tree.now in
    c.first_wrong.ensures
    ∙ rw (
      c.wrong_in.ensures.shape ∙ none_in tree.commons,
      c.wrong_in-2.ensures.shape,
      c.wrong_in-3.ensures.shape ∙ none_in tree.roles,
      c.wrong_in-4.ensures.shape ∙ none_in tree.types,
      c.wrong_in-5.ensures.shape,
      c.wrong_in-6.ensures.shape ∙ none_in tree.booleans,
      c.wrong_in-7.ensures.shape ∙ none_in tree.levels,
      c.wrong_in-8.ensures.shape ∙ none_in tree.categories,
    ) (first_none _ ∙ first_then _ _ _ (first_none _ ∙ first_none _ ∙ first_then _ _ _ (first_none _ ∙ first_none _ ∙ first_none _)))
