use Rattle.std.proofs.Common.{◌≡◌, Bool, true, false, ap, sym, ◌∙◌}
use Rattle.std.specs.Prelude.{◌||◌, ◌&&◌, not}
use Rattle.pol_bitmap.specs.Nodes.{bits_of}
use Rattle.pol_file.specs.declared.Parts.{Parts}
use Rattle.value_groups.specs.Among.{is_among}
use Rattle.rules_between.specs.ChosenRules.{ChosenRules}
use Rattle.pol_expand.specs.PlainTypes.{is_type_value}
use Rattle.rules_between.specs.Inner.RuleTables.{shares_through}
use Rattle.value_groups.proofs.Anys.{or_assoc, or_false}
use Rattle.rules_between.proofs.chosen_rules.ChosenRules.add_sources.Goals as goal

pub returns-then-is_type-clause-each : goal.returns-then-is_type-clause-each
returns-then-is_type-clause-each c source =
    let now = c.args.self.now in
    let others = c.args.others.now in
    let types = bits_of c.args.targets.now in
    let old = is_among c.args.found.now.values source in
    let first = shares_through now.policy now.rules others.rules types c.args.end source in
    let second = shares_through now.policy others.rules now.rules types c.args.end source in
    let type : is_type_value now.policy c.args.end ≡ true = ap (λ (r : ChosenRules). is_type_value r.policy c.args.end) (sym c.self.view_is) ∙ sym c.is_type.ensures ∙ c.if-is_type.true in
    c.in_ok-add_sources_through.ensures.each source ∙ ap (λ (b : Bool). old || b) (sym (ap (λ (b : Bool). first || (not b && second)) type ∙ or_false first))

pub returns-clause-each : goal.returns-clause-each
returns-clause-each c source =
    let now = c.args.self.now in
    let others = c.args.others.now in
    let types = bits_of c.args.targets.now in
    let old = is_among c.args.found.now.values source in
    let first = shares_through now.policy now.rules others.rules types c.args.end source in
    let second = shares_through now.policy others.rules now.rules types c.args.end source in
    let attribute : is_type_value now.policy c.args.end ≡ false = ap (λ (r : ChosenRules). is_type_value r.policy c.args.end) (sym c.self.view_is) ∙ sym c.is_type.ensures ∙ c.if-is_type.false in
    c.in_ok-add_sources_through-2.ensures.each source
    ∙ ap (λ (p : Parts). is_among c.add_sources_through.new.found.values source || shares_through p others.rules now.rules types c.args.end source) c.requires.policy
    ∙ ap (λ (b : Bool). b || second) (c.in_ok-add_sources_through.ensures.each source)
    ∙ or_assoc old first second
    ∙ ap (λ (b : Bool). old || (first || (not b && second))) (sym attribute)
