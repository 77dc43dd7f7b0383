use Rattle.std.proofs.Common.{◌≡◌, ◌∙◌, ◌++◌, ℕ, List, OnOk, ap, subst}
use Rattle.pol_file.specs.declared.Parts.{Parts}
use Rattle.pol_read.specs.StoredRules.{ends_of, stored}
use Rattle.pol_symbols.specs.PolicySymbols.{name_in}
use Rattle.rule_text.specs.ConditionTexts.{condition_text}
use Rattle.rule_listing.specs.Inner.KeptTexts.{begun_text, ended_text}
use Rattle.rule_listing.proofs.WholeTexts.{whole_added}
use Rattle.rule_listing.proofs.listed_texts.ListedTexts.push_whole.Goals as goal

pub returns-clause-text : goal.returns-clause-text
returns-clause-text c =
    let policy = c.args.self.now in
    let rule = stored c.args.rule.now in
    let buffer = c.args.buffer.now.items in
    let under : Parts → List ℕ = λ p. condition_text (name_in p.symbols) p.rules.conditionals rule.condition in
    let same : c.self.inside.texts ≡ policy = c.self.view_is ∙ c.push_ends.ensures.policy in
    let begun : c.push_ends.new.buffer.items ≡ buffer ++ begun_text policy.symbols (ends_of rule) = c.in_ok-push_ends.ensures.text in
    let ended : c.push_ended.new.buffer.items ≡ buffer ++ begun_text policy.symbols (ends_of rule) ++ ended_text policy.symbols rule =
    c.in_ok-push_ended.ensures.text ∙ ap (λ (before : List ℕ). before ++ ended_text c.self.inside.texts.symbols rule) begun ∙ ap (λ (p : Parts). buffer ++ begun_text policy.symbols (ends_of rule) ++ ended_text p.symbols rule) same in
    let text : c.push_ended.new.buffer.items ++ under c.push_ended.new.self ≡ buffer ++ begun_text policy.symbols (ends_of rule) ++ ended_text policy.symbols rule ++ under policy =
    ap (λ (before : List ℕ). before ++ under c.push_ended.new.self) ended ∙ ap (λ (p : Parts). buffer ++ begun_text policy.symbols (ends_of rule) ++ ended_text policy.symbols rule ++ under p) (c.push_ended.ensures.policy ∙ same) in
    subst (λ (text : List ℕ). OnOk c.push_condition.result (c.push_condition.new.buffer.items ≡ text)) (text ∙ whole_added policy rule buffer) c.push_condition.ensures.text
