use Rattle.std.proofs.Common.{List, ℕ, ◌++◌, sym, ap, ◌∙◌}
use Rattle.std.proofs.lemmas.Result.{on_ok_weaker}
use Rattle.diff_constraints.proofs.Groups.{not_two}
use Rattle.diff_constraints.proofs.change_lines.push_group.Goals as goal

pub returns-else-group-eq2 : goal.returns-else-group-eq2
returns-else-group-eq2 c =
    on_ok_weaker c.push_each.result (λ e. e ∙ ap (λ (lines : List (List ℕ)). c.args.lines.now.items ++ lines) (sym (not_two c.args.keyword c.args.group.now c.if-group-eq2.false))) c.push_each.ensures
