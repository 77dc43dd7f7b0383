use Rattle.std.proofs.Common.{map}
use Rattle.std.proofs.lemmas.List.{take_rest}
use Rattle.se_words.specs.Options.{row_view}
use Rattle.se_words.proofs.Cuts.{cutting-next, cutting-end, empty}
use Rattle.se_words.proofs.cut.groups_of.Goals as goal

pub groups-preserved : goal.groups-preserved
groups-preserved c =
    rw (take_rest c.in-Some.after.now c.head_of-head.result.further)
    (cutting-next (map row_view c.args.rows.now) _ _ _ _ _ c.in-Some.after.now c.in-Some.word.now _ _ c.head_of-head.result c.groups.invariant c.in-Some.ensures.cases.0
    c.head_of-head.ensures.head c.head_of-head.ensures.within c.in_ok-push_group.ensures)

pub returns : goal.returns
returns c = cutting-end (map row_view c.args.rows.now) _ _ _ _ c.groups.rest.now _ c.groups.invariant (empty _ c.in_default.ensures.cases)
