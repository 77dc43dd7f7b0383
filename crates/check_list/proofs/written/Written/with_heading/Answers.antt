use Rattle.std.proofs.Common.{sym, ◌∙◌}
use Rattle.std.proofs.lemmas.Bool.{not-false, not-true}
use Rattle.check_list.specs.Checklists.{ended}
use Rattle.check_list.specs.Inner.LastViews.{last_of}
use Rattle.check_list.proofs.CheckNames.{found_name, headed_new, headed_there, names_more}
use Rattle.check_list.proofs.written.Written.with_heading.Goals as goal

pub returns-then-not-branch : goal.returns-then-not-branch
returns-then-not-branch c =
    let old = c.self.inside in
    let all = c.in_ok-checks.checks.items in
    let name = c.args.name.now in
    rw (c.refused.ensures, ← c.self.view_is) (headed_there name c.args.number (ended old.checks.items (last_of old.last) c.args.number) all c.in_ok-checks.ensures
    (found_name name old.names.keys old.checks.items (last_of old.last) c.args.number all c.self.invariant c.in_ok-checks.ensures ∙ not-false _ (sym c.in_ok-insert.ensures.added ∙ c.if-not-branch.true)))

pub invariant_of-result : goal.invariant_of-result
invariant_of-result c =
    let old = c.self.inside in
    rw (c.in_ok-insert.ensures.keys) (names_more c.args.name old.names.keys old.checks.items (last_of old.last) c.args.number c.in_ok-checks.checks.items c.self.invariant c.in_ok-checks.ensures
    (not-true _ (sym c.in_ok-insert.ensures.added ∙ c.if-not-branch.false)))

pub returns : goal.returns
returns c =
    let old = c.self.inside in
    let all = c.in_ok-checks.checks.items in
    let name = c.args.name.now in
    rw (← c.self.view_is) (headed_new name c.args.number (ended old.checks.items (last_of old.last) c.args.number) all c.in_ok-checks.ensures
    (found_name name old.names.keys old.checks.items (last_of old.last) c.args.number all c.self.invariant c.in_ok-checks.ensures ∙ not-true _ (sym c.in_ok-insert.ensures.added ∙ c.if-not-branch.false)))
