use Rattle.std.proofs.Common.{sym, ◌∙◌}
use Rattle.pol_read.specs.StoredRules.{stored}
use Rattle.dom_trans.specs.DefaultRules.{sets_default}
use Rattle.dom_trans.proofs.Keeps.{kept_more, defaults_types, on_both}
use Rattle.dom_trans.proofs.keeping.add_setting.Goals as goal

pub add_where-requires-clause-types : goal.add_where-requires-clause-types
add_where-requires-clause-types c holds = defaults_types c.args.class (stored c.args.rule.now) (sym c.sets_default.ensures ∙ holds)

pub returns : goal.returns
returns c =
    on_both c.add_where.result (kept_more c.args.rules.now (sets_default c.args.class) c.args.number (stored c.args.rule.now) c.args.list.now c.add_where.new.list c.sets_default.result c.requires.rule c.requires.counted c.requires.list c.sets_default.ensures) c.add_where.ensures.rules
    c.add_where.ensures.ends
