use Rattle.std.proofs.Common.{◌≡◌, ◌+◌, length, ◌∙◌, ap, sym, refl}
use Rattle.std.proofs.lemmas.List.{length-map}
use Rattle.pol_read.specs.StoredRules.{rules_of_nodes}
use Rattle.info_summary.proofs.RuleCounting.{Sizes, sizes_are, roles, allows, ranges, first_fits, after_one, after_two, after_three, all_counted}
use Rattle.info_summary.proofs.rule_counts.count_rules.Goals as goal

pub add-requires : goal.add-requires
add-requires c =
    let r : c.len-roles.result ≡ length (roles c.args.policy.now) = c.len-roles.ensures ∙ rw c.role_trans.ensures (sym (length-map c.args.policy.now.rules.role_trans _)) in
    let a : c.len-allows.result ≡ length (allows c.args.policy.now) = c.len-allows.ensures ∙ rw c.role_allows.ensures (sym (length-map c.args.policy.now.rules.role_allows _)) in
    let g : c.len-ranges.result ≡ length (ranges c.args.policy.now) = c.len-ranges.ensures ∙ rw c.range_trans.ensures (sym (length-map c.args.policy.now.labels.range_trans _)) in
    let t : c.len.result ≡ length c.args.policy.now.rules.table = c.len.ensures ∙ ap length c.table.ensures in
    let k : c.conditional_count.result ≡ length (rules_of_nodes c.args.policy.now.rules.conditionals) = c.conditional_count.ensures ∙ rw c.conditionals.ensures refl in
    let s : Sizes c.args.policy.now c.rule_count-rules.result (c.len.result + c.conditional_count.result) c.len-roles.result c.len-allows.result c.len-ranges.result =
    sizes_are c.args.policy.now c.rule_count-rules.result c.len.result c.conditional_count.result c.len-roles.result c.len-allows.result c.len-ranges.result
    c.rule_count-rules.ensures.count c.rule_count-rules.type_inv t k r a g in
    first_fits c.args.policy.now c.rule_count-rules.result (c.len.result + c.conditional_count.result) c.len-roles.result c.len-allows.result c.len-ranges.result c.count_first-counts.result s c.count_first-counts.ensures

pub add-requires-2 : goal.add-requires-2
add-requires-2 c =
    let r : c.len-roles.result ≡ length (roles c.args.policy.now) = c.len-roles.ensures ∙ rw c.role_trans.ensures (sym (length-map c.args.policy.now.rules.role_trans _)) in
    let a : c.len-allows.result ≡ length (allows c.args.policy.now) = c.len-allows.ensures ∙ rw c.role_allows.ensures (sym (length-map c.args.policy.now.rules.role_allows _)) in
    let g : c.len-ranges.result ≡ length (ranges c.args.policy.now) = c.len-ranges.ensures ∙ rw c.range_trans.ensures (sym (length-map c.args.policy.now.labels.range_trans _)) in
    let t : c.len.result ≡ length c.args.policy.now.rules.table = c.len.ensures ∙ ap length c.table.ensures in
    let k : c.conditional_count.result ≡ length (rules_of_nodes c.args.policy.now.rules.conditionals) = c.conditional_count.ensures ∙ rw c.conditionals.ensures refl in
    let s : Sizes c.args.policy.now c.rule_count-rules.result (c.len.result + c.conditional_count.result) c.len-roles.result c.len-allows.result c.len-ranges.result =
    sizes_are c.args.policy.now c.rule_count-rules.result c.len.result c.conditional_count.result c.len-roles.result c.len-allows.result c.len-ranges.result
    c.rule_count-rules.ensures.count c.rule_count-rules.type_inv t k r a g in
    let one = after_one c.args.policy.now c.rule_count-rules.result (c.len.result + c.conditional_count.result) c.len-roles.result c.len-allows.result c.len-ranges.result c.count_first-counts.result c.add.new.counts s c.count_first-counts.ensures c.add.ensures in
    one.fits

pub add-requires-3 : goal.add-requires-3
add-requires-3 c =
    let r : c.len-roles.result ≡ length (roles c.args.policy.now) = c.len-roles.ensures ∙ rw c.role_trans.ensures (sym (length-map c.args.policy.now.rules.role_trans _)) in
    let a : c.len-allows.result ≡ length (allows c.args.policy.now) = c.len-allows.ensures ∙ rw c.role_allows.ensures (sym (length-map c.args.policy.now.rules.role_allows _)) in
    let g : c.len-ranges.result ≡ length (ranges c.args.policy.now) = c.len-ranges.ensures ∙ rw c.range_trans.ensures (sym (length-map c.args.policy.now.labels.range_trans _)) in
    let t : c.len.result ≡ length c.args.policy.now.rules.table = c.len.ensures ∙ ap length c.table.ensures in
    let k : c.conditional_count.result ≡ length (rules_of_nodes c.args.policy.now.rules.conditionals) = c.conditional_count.ensures ∙ rw c.conditionals.ensures refl in
    let s : Sizes c.args.policy.now c.rule_count-rules.result (c.len.result + c.conditional_count.result) c.len-roles.result c.len-allows.result c.len-ranges.result =
    sizes_are c.args.policy.now c.rule_count-rules.result c.len.result c.conditional_count.result c.len-roles.result c.len-allows.result c.len-ranges.result
    c.rule_count-rules.ensures.count c.rule_count-rules.type_inv t k r a g in
    let one = after_one c.args.policy.now c.rule_count-rules.result (c.len.result + c.conditional_count.result) c.len-roles.result c.len-allows.result c.len-ranges.result c.count_first-counts.result c.add.new.counts s c.count_first-counts.ensures c.add.ensures in
    let two = after_two c.args.policy.now c.rule_count-rules.result (c.len.result + c.conditional_count.result) c.len-roles.result c.len-allows.result c.len-ranges.result c.add.new.counts c.add-2.new.counts s one c.add-2.ensures in
    two.fits

pub add-requires-4 : goal.add-requires-4
add-requires-4 c =
    let r : c.len-roles.result ≡ length (roles c.args.policy.now) = c.len-roles.ensures ∙ rw c.role_trans.ensures (sym (length-map c.args.policy.now.rules.role_trans _)) in
    let a : c.len-allows.result ≡ length (allows c.args.policy.now) = c.len-allows.ensures ∙ rw c.role_allows.ensures (sym (length-map c.args.policy.now.rules.role_allows _)) in
    let g : c.len-ranges.result ≡ length (ranges c.args.policy.now) = c.len-ranges.ensures ∙ rw c.range_trans.ensures (sym (length-map c.args.policy.now.labels.range_trans _)) in
    let t : c.len.result ≡ length c.args.policy.now.rules.table = c.len.ensures ∙ ap length c.table.ensures in
    let k : c.conditional_count.result ≡ length (rules_of_nodes c.args.policy.now.rules.conditionals) = c.conditional_count.ensures ∙ rw c.conditionals.ensures refl in
    let s : Sizes c.args.policy.now c.rule_count-rules.result (c.len.result + c.conditional_count.result) c.len-roles.result c.len-allows.result c.len-ranges.result =
    sizes_are c.args.policy.now c.rule_count-rules.result c.len.result c.conditional_count.result c.len-roles.result c.len-allows.result c.len-ranges.result
    c.rule_count-rules.ensures.count c.rule_count-rules.type_inv t k r a g in
    let one = after_one c.args.policy.now c.rule_count-rules.result (c.len.result + c.conditional_count.result) c.len-roles.result c.len-allows.result c.len-ranges.result c.count_first-counts.result c.add.new.counts s c.count_first-counts.ensures c.add.ensures in
    let two = after_two c.args.policy.now c.rule_count-rules.result (c.len.result + c.conditional_count.result) c.len-roles.result c.len-allows.result c.len-ranges.result c.add.new.counts c.add-2.new.counts s one c.add-2.ensures in
    let three = after_three c.args.policy.now c.rule_count-rules.result (c.len.result + c.conditional_count.result) c.len-roles.result c.len-allows.result c.len-ranges.result c.add-2.new.counts c.add-3.new.counts s two c.add-3.ensures in
    three.fits

pub returns : goal.returns
returns c =
    let r : c.len-roles.result ≡ length (roles c.args.policy.now) = c.len-roles.ensures ∙ rw c.role_trans.ensures (sym (length-map c.args.policy.now.rules.role_trans _)) in
    let a : c.len-allows.result ≡ length (allows c.args.policy.now) = c.len-allows.ensures ∙ rw c.role_allows.ensures (sym (length-map c.args.policy.now.rules.role_allows _)) in
    let g : c.len-ranges.result ≡ length (ranges c.args.policy.now) = c.len-ranges.ensures ∙ rw c.range_trans.ensures (sym (length-map c.args.policy.now.labels.range_trans _)) in
    let t : c.len.result ≡ length c.args.policy.now.rules.table = c.len.ensures ∙ ap length c.table.ensures in
    let k : c.conditional_count.result ≡ length (rules_of_nodes c.args.policy.now.rules.conditionals) = c.conditional_count.ensures ∙ rw c.conditionals.ensures refl in
    let s : Sizes c.args.policy.now c.rule_count-rules.result (c.len.result + c.conditional_count.result) c.len-roles.result c.len-allows.result c.len-ranges.result =
    sizes_are c.args.policy.now c.rule_count-rules.result c.len.result c.conditional_count.result c.len-roles.result c.len-allows.result c.len-ranges.result
    c.rule_count-rules.ensures.count c.rule_count-rules.type_inv t k r a g in
    let one = after_one c.args.policy.now c.rule_count-rules.result (c.len.result + c.conditional_count.result) c.len-roles.result c.len-allows.result c.len-ranges.result c.count_first-counts.result c.add.new.counts s c.count_first-counts.ensures c.add.ensures in
    let two = after_two c.args.policy.now c.rule_count-rules.result (c.len.result + c.conditional_count.result) c.len-roles.result c.len-allows.result c.len-ranges.result c.add.new.counts c.add-2.new.counts s one c.add-2.ensures in
    let three = after_three c.args.policy.now c.rule_count-rules.result (c.len.result + c.conditional_count.result) c.len-roles.result c.len-allows.result c.len-ranges.result c.add-2.new.counts c.add-3.new.counts s two c.add-3.ensures in
    all_counted c.args.policy.now c.rule_count-rules.result (c.len.result + c.conditional_count.result) c.len-roles.result c.len-allows.result c.len-ranges.result c.add-3.new.counts c.add-4.new.counts s three c.add-4.ensures
