use Rattle.std.proofs.Common.{◌∙◌, ℕ, List, sum, ap, arith}
use Rattle.pol_read.proofs.RuleNodes.{names_total, node_item, node_rule_found}
use Rattle.pol_read.proofs.stored.name_record.Goals as goal

pub find-place-requires : goal.find-place-requires
find-place-requires c =
    let index = rw c.in-Groups.is at c.requires.index in
    let rule = rw c.in-Groups.is at c.requires.rule in
    omega (arith, rule, ap (λ (ns : List ℕ). sum ns) index.lengths, names_total c.args.symbols.now c.in-Groups.groups)

pub source_record-requires-clause-rule : goal.source_record-requires-clause-rule
source_record-requires-clause-rule c =
    let index = rw c.in-Groups.is at c.requires.index in
    node_item c.args.symbols.now c.in-Groups.groups c.args.index.now.lengths index.lengths c.find-place.result.0 c.find-place.result.1 c.find-place.ensures.item c.node_at-group.result.0 c.node_at-group.result.1 c.node_at-group.result.2 c.node_at-group.ensures.group c.node_at-group.ensures.datum c.node_at-group.ensures.node

pub returns-in-Groups : goal.returns-in-Groups
returns-in-Groups c =
    let index = rw c.in-Groups.is at c.requires.index in
    rw c.in-Groups.is
    (node_rule_found c.args.symbols.now c.in-Groups.groups c.args.index.now.lengths index.lengths c.find-place.result.0 c.find-place.result.1 c.find-place.ensures.item c.node_at-group.result.0 c.node_at-group.result.1 c.node_at-group.result.2 c.node_at-group.ensures.group c.node_at-group.ensures.datum c.node_at-group.ensures.node c.args.i c.find-place.ensures.place ∙ c.source_record.ensures)
