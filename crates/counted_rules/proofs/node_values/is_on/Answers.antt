use Rattle.std.proofs.Common.{length, refl, ap, sym, ◌∙◌}
use Rattle.std.proofs.lemmas.Option.{slice_get_past, slice_get_read}
use Rattle.counted_rules.specs.Inner.NodeTables.{is_branch_of}
use Rattle.counted_rules.proofs.EnabledRules.{same_is}
use Rattle.counted_rules.proofs.node_values.is_on.Goals as goal

pub returns-in-Some : goal.returns-in-Some
returns-in-Some c =
    let values = c.args.values.now in
    let value = c.in-Some.value.now in
    same_is value c.args.condition.branch
    ∙ sym (ap (is_branch_of c.args.condition.branch) (slice_get_read values (length values) c.args.condition.node value refl c.in-Some.ensures.lookup.3.0 c.in-Some.ensures.lookup.1))

pub returns-in-None : goal.returns-in-None
returns-in-None c = sym (ap (is_branch_of c.args.condition.branch) (slice_get_past c.args.values.now c.args.condition.node c.in-None.ensures.lookup.3))
