use Rattle.std.proofs.Common.{subst, sym}
use Rattle.pol_file.specs.declared.Parts.{Parts}
use Rattle.dom_trans.specs.declared.Reasons.{Reasons}
use Rattle.se_dom.specs.Inner.ReasonRules.{AreReasonRules}
use Rattle.se_dom.proofs.ReasonLemmas.{reason-rules}
use Rattle.se_dom.proofs.dom_texts.push_transition.Goals as goal

pub push_reasons-requires-clause-rules : goal.push_reasons-requires-clause-rules
push_reasons-requires-clause-rules c =
    let rules = c.args.graph.now.rules in
    subst (λ (p : Parts). AreReasonRules p c.in_ok-reasons.reasons) (sym c.requires)
    (subst (λ (reasons : Reasons). AreReasonRules rules.policy reasons) (sym c.in_ok-reasons.ensures) (reason-rules rules c.args.from c.args.to))
