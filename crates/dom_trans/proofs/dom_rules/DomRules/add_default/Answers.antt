use Rattle.std.proofs.Common.{ℕ, Option, sym, ap, ◌∙◌}
use Rattle.std.specs.Prelude.{slice_index}
use Rattle.std.specs.List.{list_any}
use Rattle.std.proofs.lemmas.Bool.{and_from, and_left, and_right}
use Rattle.pol_bitmap.specs.Nodes.{bits_of}
use Rattle.pol_file.specs.declared.Parts.{Parts}
use Rattle.value_groups.specs.Among.{is_among}
use Rattle.pol_expand.specs.PlainTypes.{is_type_value}
use Rattle.dom_trans.specs.Inner.Targets.{is_found, starts_at_point}
use Rattle.dom_trans.proofs.Defaults.{default_is, no_start, none_starts, one_starts}
use Rattle.dom_trans.proofs.dom_rules.DomRules.add_default.Goals as goal

pub returns-in_default-clause-each : goal.returns-in_default-clause-each
returns-in_default-clause-each c = λ b.
    none_starts c.args.self.now (bits_of c.args.executable.now) c.args.numbers.now (slice_index c.args.numbers.now 0) b (is_among c.args.found.now.values b) c.requires.alike
    (sym (default_is c.args.self.now.policy (slice_index c.args.numbers.now 0) c.default_of.result b c.default_of.ensures) ∙ ap (λ (found : Option ℕ). is_found found b) c.in_default.is)

pub returns-then-not-is_type-clause-each : goal.returns-then-not-is_type-clause-each
returns-then-not-is_type-clause-each c = λ b.
    let rules = c.args.self.now in
    let default = ap (λ (found : Option ℕ). is_found found b) (sym c.in-Some.is) ∙ default_is rules.policy (slice_index c.args.numbers.now 0) c.default_of.result b c.default_of.ensures in
    let other = ap (λ (p : Parts). is_type_value p c.in-Some.b) (sym c.policy.ensures) ∙ sym c.is_type.ensures ∙ c.if-not-is_type.true in
    no_start rules (bits_of c.args.executable.now) c.args.numbers.now (slice_index c.args.numbers.now 0) c.in-Some.b b (is_among c.args.found.now.values b) c.requires.alike default
    (and_left (is_type_value rules.policy c.in-Some.b) (list_any (starts_at_point rules (bits_of c.args.executable.now) c.in-Some.b) c.args.numbers.now) other)

pub returns-then-branch-clause-each : goal.returns-then-branch-clause-each
returns-then-branch-clause-each c = λ b.
    let rules = c.args.self.now in
    let default = ap (λ (found : Option ℕ). is_found found b) (sym c.in-Some.is) ∙ default_is rules.policy (slice_index c.args.numbers.now 0) c.default_of.result b c.default_of.ensures in
    let is = ap (λ (p : Parts). is_type_value p c.in-Some.b) (sym c.policy.ensures) ∙ sym c.is_type.ensures ∙ c.if-not-is_type.false in
    c.add.ensures.each b
    ∙ one_starts rules (bits_of c.args.executable.now) c.args.numbers.now (slice_index c.args.numbers.now 0) c.in-Some.b b (is_among c.args.found.now.values b) c.requires.alike default
    (and_from (is_type_value rules.policy c.in-Some.b) (list_any (starts_at_point rules (bits_of c.args.executable.now) c.in-Some.b) c.args.numbers.now) is (sym c.in_ok-start_at_point.ensures ∙ c.if-branch.true))

pub returns-else-branch-clause-each : goal.returns-else-branch-clause-each
returns-else-branch-clause-each c = λ b.
    let rules = c.args.self.now in
    let default = ap (λ (found : Option ℕ). is_found found b) (sym c.in-Some.is) ∙ default_is rules.policy (slice_index c.args.numbers.now 0) c.default_of.result b c.default_of.ensures in
    no_start rules (bits_of c.args.executable.now) c.args.numbers.now (slice_index c.args.numbers.now 0) c.in-Some.b b (is_among c.args.found.now.values b) c.requires.alike default
    (and_right (is_type_value rules.policy c.in-Some.b) (list_any (starts_at_point rules (bits_of c.args.executable.now) c.in-Some.b) c.args.numbers.now) (sym c.in_ok-start_at_point.ensures ∙ c.if-branch.false))
