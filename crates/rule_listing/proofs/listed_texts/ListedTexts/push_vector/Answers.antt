use Rattle.std.proofs.Common.{◌≡◌, ◌∙◌, ◌++◌, ℕ, List, Option, None, OnOk, option_map, refl, sym, ap, subst}
use Rattle.pol_read.specs.StoredRules.{StoredRule, av_rule, ends_of}
use Rattle.pol_read.specs.declared.rule.RuleEnds.{RuleEnds}
use Rattle.pol_read.specs.declared.rule.RulePart.{RulePart}
use Rattle.pol_read.specs.declared.rule.RulePart.TheVariants.{Default}
use Rattle.rule_listing.specs.Inner.KeptTexts.{begun_text, ended_text, ended_with}
use Rattle.rule_listing.proofs.WholeTexts.{ended_added}
use Rattle.rule_listing.proofs.listed_texts.ListedTexts.push_vector.Goals as goal

pub returns-in-Default-clause-text : goal.returns-in-Default-clause-text
returns-in-Default-clause-text c =
    let policy = c.args.self.now in
    let rule = av_rule None c.args.view.now in
    let made = c.vector_rule-rule.result in
    let told = c.push_ends.new.self in
    let begun = c.push_ends.new.buffer.items in
    let buffer = c.args.buffer.now.items in
    let ends : c.vector_ends.result ≡ ends_of rule = rw (c.vector_ends.ensures, c.key.ensures) refl in
    let was : begun ≡ buffer ++ begun_text policy.symbols (ends_of rule) = c.in_ok-push_ends.ensures.text ∙ ap (λ (ends : RuleEnds). buffer ++ begun_text policy.symbols ends) ends in
    let name : option_map (λ name. name.now) made.name ≡ None = ap (λ (r : StoredRule). r.name) c.vector_rule-rule.ensures in
    let gives : ended_with told.symbols made.kind made.class (Default c.in-Default.value) None ≡ ended_text told.symbols rule =
    ap (λ (part : RulePart). ended_with told.symbols made.kind made.class part None) (sym c.in-Default.is)
    ∙ ap (λ (name : Option (List ℕ)). ended_with told.symbols made.kind made.class made.part name) (sym name)
    ∙ ap (ended_text told.symbols) c.vector_rule-rule.ensures in
    subst (λ (text : List ℕ). OnOk c.push_default.result (c.push_default.new.buffer.items ≡ text))
    (ap (λ (text : List ℕ). begun ++ text) gives ∙ ended_added policy told c.args.view.now buffer begun c.push_ends.ensures.policy was) c.push_default.ensures.text

pub returns-in_default : goal.returns-in_default
returns-in_default c =
    let policy = c.args.self.now in
    let rule = av_rule None c.args.view.now in
    let told = c.self.inside.texts in
    let begun = c.push_ends.new.buffer.items in
    let buffer = c.args.buffer.now.items in
    let same : told ≡ policy = c.self.view_is ∙ c.push_ends.ensures.policy in
    let ends : c.vector_ends.result ≡ ends_of rule = rw (c.vector_ends.ensures, c.key.ensures) refl in
    let was : begun ≡ buffer ++ begun_text policy.symbols (ends_of rule) = c.in_ok-push_ends.ensures.text ∙ ap (λ (ends : RuleEnds). buffer ++ begun_text policy.symbols ends) ends in
    record {
      policy = c.push_ended.ensures.policy ∙ same;
      text = subst (λ (text : List ℕ). OnOk c.push_ended.result (c.push_ended.new.buffer.items ≡ text))
          (ap (λ (r : StoredRule). begun ++ ended_text told.symbols r) c.vector_rule-rule.ensures ∙ ended_added policy told c.args.view.now buffer begun same was) c.push_ended.ensures.text;
    }
