use Rattle.std.proofs.Common.{refl}
use Rattle.info_summary.specs.RuleCounts.{kind_counts}
use Rattle.info_summary.proofs.rule_counts.rule_counts.Goals as goal

pub returns : goal.returns
unfolding kind_counts
returns c =
    rw (c.count_of.ensures, c.count_of-2.ensures, c.count_of-3.ensures, c.count_of-4.ensures, c.count_of-5.ensures, c.count_of-6.ensures, c.count_of-7.ensures, c.count_of-8.ensures, c.count_of-9.ensures, c.count_of-10.ensures, c.count_of-11.ensures, c.count_of-12.ensures)
    (rw c.count_rules-counts.ensures refl)
