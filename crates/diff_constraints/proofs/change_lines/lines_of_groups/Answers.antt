use Rattle.std.proofs.Common.{◌≡◌, ◌≤◌, List, ◌+◌, ◌∙◌, drop, length, length-drop, refl, subst, ap, arith}
use Rattle.std.specs.List.{prefix_len}
use Rattle.diff_constraints.specs.ConstraintDifferences.{Sole, same_key}
use Rattle.diff_constraints.proofs.Groups.{group_next, to_the_end}
use Rattle.diff_constraints.proofs.change_lines.lines_of_groups.Goals as goal

pub groups-preserved : goal.groups-preserved
groups-preserved c =
    let soles = c.args.soles.now in
    let start = c.groups.start in
    let a = c.index-soles-start.result in
    let end = start + 1 + c.run_len.result in
    let behind = to_the_end (start + 1) soles in
    let run : c.run_len.result ≡ prefix_len (same_key a) (drop (start + 1) soles) = c.run_len.ensures.exact ∙ ap (prefix_len (same_key a)) behind in
    let within : c.run_len.result ≤ length (drop (start + 1) soles) = subst (λ (others : List Sole). c.run_len.result ≤ length others) behind c.run_len.ensures.within in
    let lines = group_next c.args.keyword c.groups.lines.items c.push_group.new.lines.items soles start end a _ c.groups-test.true c.index-soles-start.is (ap (λ n. start + 1 + n) run) refl c.in_ok-push_group.ensures in
    (lines ∙ c.groups.invariant.0, omega (arith, within, length-drop (start + 1) soles, c.groups-test.true))
