use Rattle.std.proofs.Common.{rules}
use Rattle.rules_by_end.specs.declared.rule_row.RuleRow.{RuleRow}
use Rattle.rules_by_end.proofs.Halves.{halved}
use Rattle.rules_by_end.proofs.grouped_search.rows_of.Goals as goal

abbrev blank : RuleRow
blank = record { rule = 0; far = 0 }

pub slice_bounds-result-count : goal.slice_bounds-result-count
slice_bounds-result-count c =
    (halved (λ (row : RuleRow). row.far) c.args.rows.now c.args.end c.partition_point-first.result c.partition_point-stop.result blank c.requires c.partition_point-first.ensures.bound c.partition_point-stop.ensures.bound
    c.partition_point-first.ensures.partitioned c.partition_point-stop.ensures.partitioned (λ a r q k. search rules) (λ a r q k. search rules)).rise

pub slice_bounds-result-start : goal.slice_bounds-result-start
slice_bounds-result-start c =
    (halved (λ (row : RuleRow). row.far) c.args.rows.now c.args.end c.partition_point-first.result c.partition_point-stop.result blank c.requires c.partition_point-first.ensures.bound c.partition_point-stop.ensures.bound
    c.partition_point-first.ensures.partitioned c.partition_point-stop.ensures.partitioned (λ a r q k. search rules) (λ a r q k. search rules)).rise

pub returns : goal.returns
returns c =
    (halved (λ (row : RuleRow). row.far) c.args.rows.now c.args.end c.partition_point-first.result c.partition_point-stop.result blank c.requires c.partition_point-first.ensures.bound c.partition_point-stop.ensures.bound
    c.partition_point-first.ensures.partitioned c.partition_point-stop.ensures.partitioned (λ a r q k. search rules) (λ a r q k. search rules)).found
