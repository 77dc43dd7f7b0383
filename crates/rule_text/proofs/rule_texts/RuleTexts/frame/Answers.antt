use Rattle.std.proofs.Common.{◌≡◌, ◌++◌, subst}
use Rattle.std.specs.Prelude.{codes}
use Rattle.pol_cursor.specs.References.{name_of}
use Rattle.pol_symbols.specs.PolicySymbols.{name_in}
use Rattle.pol_file.specs.declared.Parts.{Parts}
use Rattle.pol_read.specs.RuleKinds.{target_table}
use Rattle.pol_read.specs.StoredRules.{stored}
use Rattle.rule_text.specs.RuleFrames.{frame_head, frame_target, head_text}
use Rattle.rule_text.specs.RuleTexts.{single_text}
use Rattle.rule_text.proofs.Frames.{framed}
use Rattle.rule_text.proofs.rule_texts.RuleTexts.frame.Goals as goal

pub returns-clause-line : goal.returns-clause-line
unfolding frame_head frame_target
returns-clause-line c = λ source target.
    let rule = stored c.rule-rule.result in
    let symbols = c.symbols.result.now in
    subst (λ (policy : Parts). head_text symbols rule.kind source ++ name_of (name_in symbols) (target_table rule.kind) target ++ c.push.new.self.items ≡ single_text policy c.args.n source target ++ codes "\n") c.self.view_is
    (framed c.self.inside.policy.now c.args.n rule symbols c.new-rest.result.items c.push_rest.new.buffer.items c.push.new.self.items source target
    c.rule-rule.ensures.is c.symbols.ensures c.new-rest.ensures.items c.in_ok-push_rest.ensures c.in_ok-push.ensures.items)
