use Rattle.std.proofs.Common.{◌≡◌, false, true, [], List, ap, sym, ◌∙◌, arith}
use Rattle.std.proofs.lemmas.Result.{IfOk-weaker}
use Rattle.pol_bitmap.specs.declared.Node.{Node}
use Rattle.pol_bitmap.specs.Nodes.{bits_of}
use Rattle.pol_bitmap.specs.Sets.{IsUnion}
use Rattle.pol_bitmap.proofs.BitLists.{bits_increasing}
use Rattle.pol_file.specs.declared.Parts.{Parts}
use Rattle.rules_between.specs.ChosenRules.{ChosenRules, sources_to_any}
use Rattle.pol_expand.specs.JoinedTypes.{sources_to}
use Rattle.pol_expand.specs.PlainTypes.{is_type_value}
use Rattle.dom_trans.specs.Inner.Targets.{AreEntering}
use Rattle.dom_trans.proofs.FoundSources.{entering_are, none_entering}
use Rattle.dom_trans.proofs.dom_rules.DomRules.entering.Goals as goal

pub returns-then-not-is_type : goal.returns-then-not-is_type
returns-then-not-is_type c =
    let answer : c.is_type.result ≡ false = grind (arith, c.if-not-is_type.true) in
    let none = ap (λ (p : Parts). is_type_value p c.args.b) (sym c.policy.ensures) ∙ sym c.is_type.ensures ∙ answer in
    IfOk-weaker c.empty.result (λ (set : List Node). bits_of set ≡ []) (λ (set : List Node). AreEntering c.args.self.now c.args.b (bits_of set)) (λ set e. none_entering c.args.self.now c.args.b (bits_of set) none) c.empty.ensures.bits

pub having-requires : goal.having-requires
having-requires c = bits_increasing 0 c.in_ok-among.among c.in_ok-among.ensures.form.0

pub starting-requires : goal.starting-requires
starting-requires c =
    let answer : c.is_type.result ≡ true = grind (arith, c.if-not-is_type.false) in
    ap (λ (p : Parts). is_type_value p c.args.b) (sym c.policy.ensures) ∙ sym c.is_type.ensures ∙ answer

pub returns : goal.returns
returns c =
    let rules = c.args.self.now in
    let points = bits_of c.in_ok-points.points in
    let allowed = c.in_ok-allowed.ensures ∙ ap (λ (ends : ChosenRules). sources_to ends.policy ends.rules c.args.b) c.list.ensures in
    let executing = c.in_ok-executing.ensures ∙ ap (λ (ends : ChosenRules). sources_to_any ends.policy ends.rules points) c.list-2.ensures in
    IfOk-weaker c.union.result (λ (set : List Node). IsUnion (bits_of c.in_ok-asking.asking) (bits_of c.in_ok-default.default) (bits_of set)) (λ (set : List Node). AreEntering rules c.args.b (bits_of set))
    (λ set union. entering_are rules c.args.b points (bits_of c.in_ok-executing.executing) (bits_of c.in_ok-allowed.allowed) (bits_of c.in_ok-among.among) (bits_of c.in_ok-asking.asking) (bits_of c.in_ok-starting.starting) (bits_of c.in_ok-default.default) (bits_of set)
    c.in_ok-points.ensures executing allowed c.in_ok-among.ensures.bits c.in_ok-asking.ensures c.in_ok-starting.ensures c.in_ok-default.ensures.bits union)
    c.union.ensures.bits
