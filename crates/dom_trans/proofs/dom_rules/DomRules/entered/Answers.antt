use Rattle.std.proofs.Common.{◌≡◌, true, List, ap, ◌∙◌, arith}
use Rattle.std.proofs.lemmas.Result.{IfOk-weaker}
use Rattle.pol_bitmap.specs.declared.Node.{Node}
use Rattle.pol_bitmap.specs.Nodes.{bits_of}
use Rattle.rules_between.specs.ChosenRules.{ChosenRules, sources_to_any}
use Rattle.dom_trans.specs.Inner.Targets.{AreEntered}
use Rattle.dom_trans.proofs.FoundTargets.{entered_by_request}
use Rattle.dom_trans.proofs.dom_rules.DomRules.entered.Goals as goal

pub returns : goal.returns
returns c =
    let asks : c.args.source.now.setexec ≡ true = grind (arith, c.if-not-source.false) in
    IfOk-weaker c.sources_of_any.result (λ (set : List Node). bits_of set ≡ sources_to_any c.list.result.now.policy c.list.result.now.rules (bits_of c.args.source.now.executable)) (λ (set : List Node). AreEntered c.args.self.now c.args.a (bits_of set))
    (λ set is. entered_by_request c.args.self.now c.args.a c.args.source.now.executable c.args.source.now.setexec c.args.source.now.setcurrent (bits_of set) c.requires asks
    (is ∙ ap (λ (ends : ChosenRules). sources_to_any ends.policy ends.rules (bits_of c.args.source.now.executable)) c.list.ensures))
    c.sources_of_any.ensures
