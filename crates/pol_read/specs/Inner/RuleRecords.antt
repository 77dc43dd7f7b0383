-- The rule that each record that stored rules are read from is. It serves the code alone.
use Rattle.pol_read.specs.declared.rule_record.RuleRecord.{RuleRecord}
use Rattle.pol_read.specs.declared.rule_record.RuleRecord.TheVariants.{Vector, RoleTrans, RoleAllow, NameTrans, NameSource, RangeTrans}
use Rattle.pol_read.specs.StoredRules.{StoredRule, av_rule, role_trans_rule, role_allow_rule, name_rule, name_trans_rule, range_trans_rule}

abbrev pub rule_of : RuleRecord → StoredRule
rule_of (Vector av condition) = av_rule condition av
rule_of (RoleTrans trans) = role_trans_rule trans
rule_of (RoleAllow allow) = role_allow_rule allow
rule_of (NameTrans trans) = name_trans_rule trans
rule_of (NameSource group datum source) = name_rule group.value.name source group.value.target group.value.class datum.value.default
rule_of (RangeTrans trans) = range_trans_rule trans
