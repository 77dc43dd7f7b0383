use Rattle.std.proofs.Common.{◌≡◌, List, ap, sym, ◌∙◌, arith}
use Rattle.std.specs.Prelude.{true, false}
use Rattle.std.proofs.lemmas.Result.{IfOk-weaker}
use Rattle.pol_bitmap.specs.declared.Node.{Node}
use Rattle.pol_bitmap.specs.Nodes.{bits_of}
use Rattle.pol_bitmap.specs.Sets.{IsUnion}
use Rattle.rules_between.specs.ChosenRules.{ChosenRules}
use Rattle.pol_expand.specs.JoinedTypes.{targets_from}
use Rattle.dom_trans.specs.Inner.Targets.{AreTargets}
use Rattle.dom_trans.proofs.FoundTargets.{targets_standard, targets_both}
use Rattle.dom_trans.proofs.dom_rules.DomRules.targets.Goals as goal

pub returns-then-not-source : goal.returns-then-not-source
returns-then-not-source c =
    let allowed = c.in_ok-allowed.ensures ∙ ap (λ (ends : ChosenRules). targets_from ends.policy ends.rules c.args.a) c.list.ensures in
    let never : c.args.source.now.setcurrent ≡ false = grind (arith, c.if-not-source.true) in
    targets_standard c.args.self.now c.args.a (bits_of c.in_ok-entered.entered) (bits_of c.in_ok-allowed.allowed) (bits_of c.in_ok-standard.standard) c.in_ok-entered.ensures allowed c.in_ok-standard.ensures.bits
    (sym c.requires.changes ∙ never)

pub returns : goal.returns
returns c =
    let allowed = c.in_ok-allowed.ensures ∙ ap (λ (ends : ChosenRules). targets_from ends.policy ends.rules c.args.a) c.list.ensures in
    let dynamic = c.in_ok-dynamic.ensures ∙ ap (λ (ends : ChosenRules). targets_from ends.policy ends.rules c.args.a) c.list-2.ensures in
    let changes : c.args.source.now.setcurrent ≡ true = grind (arith, c.if-not-source.false) in
    IfOk-weaker c.union.result (λ (set : List Node). IsUnion (bits_of c.in_ok-standard.standard) (bits_of c.in_ok-dynamic.dynamic) (bits_of set)) (λ (set : List Node). AreTargets c.args.self.now c.args.a (bits_of set))
    (λ set union. targets_both c.args.self.now c.args.a (bits_of c.in_ok-entered.entered) (bits_of c.in_ok-allowed.allowed) (bits_of c.in_ok-standard.standard) (bits_of c.in_ok-dynamic.dynamic) (bits_of set) c.in_ok-entered.ensures allowed c.in_ok-standard.ensures.bits
    (sym c.requires.changes ∙ changes) dynamic union)
    c.union.ensures.bits
