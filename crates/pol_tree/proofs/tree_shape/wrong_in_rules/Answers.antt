use Rattle.std.proofs.Common.{◌∙◌}
use Rattle.pol_tree.specs.TreeShape.{shape_of_rules}
use Rattle.pol_tree.proofs.Wrongs.{first_none, first_then, none_in}
use Rattle.pol_tree.proofs.tree_shape.wrong_in_rules.Goals as goal

pub returns-clause-shape : goal.returns-clause-shape
unfolding shape_of_rules
returns-clause-shape c =
    let tree = c.args.tree.now in
    c.first_wrong.ensures
    ∙ rw (
      c.wrong_in.ensures.shape,
      c.wrong_in-2.ensures.shape,
      c.wrong_in-3.ensures.shape ∙ none_in tree.roletrans,
      c.wrong_in-4.ensures.shape ∙ none_in tree.roleallow,
      c.wrong_list.ensures,
      c.wrong_in-5.ensures.shape ∙ none_in tree.nametrans,
      c.wrong_list-2.ensures,
      c.wrong_in-6.ensures.shape ∙ none_in tree.namegroup,
      c.has_groups-grouped.ensures,
    ) (first_then _ _ _ (first_then _ _ _ (first_none _ ∙ first_none _ ∙ first_then _ _ _ (first_none _ ∙ first_then _ _ _ (first_none _)))))
