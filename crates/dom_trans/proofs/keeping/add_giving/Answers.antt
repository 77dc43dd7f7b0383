use Rattle.std.proofs.Common.{sym, ◌∙◌}
use Rattle.pol_read.specs.StoredRules.{stored}
use Rattle.rule_grants.specs.Grants.{gives}
use Rattle.rule_grants.proofs.GivenTypes.{gives_types}
use Rattle.dom_trans.proofs.Keeps.{kept_more, on_both}
use Rattle.dom_trans.proofs.keeping.add_giving.Goals as goal

pub add_where-requires-clause-types : goal.add_where-requires-clause-types
add_where-requires-clause-types c holds = gives_types c.args.permission (stored c.args.rule.now) (sym c.gives.ensures ∙ holds)

pub returns : goal.returns
returns c =
    on_both c.add_where.result (kept_more c.args.rules.now (gives c.args.permission) c.args.number (stored c.args.rule.now) c.args.list.now c.add_where.new.list c.gives.result c.requires.rule c.requires.counted c.requires.list c.gives.ensures) c.add_where.ensures.rules
    c.add_where.ensures.ends
