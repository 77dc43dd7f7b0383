use Rattle.std.proofs.Common.{◌≡◌, ◌∙◌, Some, List, ℕ, length, map, slice_get, ap, arith}
use Rattle.pol_read.specs.StoredRules.{StoredRule, rule_sections, range_trans_rule}
use Rattle.pol_read.proofs.RuleSums.{found_by}
use Rattle.pol_read.proofs.stored.section_record.Goals as goal

pub returns-in_default : goal.returns-in_default
returns-in_default c =
    let parts = c.args.parts.now in
    let sections = c.args.index.now.sections in
    let are = c.requires.index.sections in
    let last : c.find-section.result.0 ≡ 5 = omega (arith, ap (λ (ns : List ℕ). length ns) are, c.find-section.ensures.list) in
    let there : slice_get (rule_sections parts) c.find-section.result.0 ≡ Some (map range_trans_rule parts.labels.range_trans) = ap (slice_get (rule_sections parts)) last in
    found_by (λ (rules : List StoredRule). rules) (rule_sections parts) sections c.find-section.result.0 c.find-section.result.1 c.args.n (map range_trans_rule parts.labels.range_trans) are there c.find-section.ensures.item c.find-section.ensures.place
    ∙ c.range_trans_record.ensures
