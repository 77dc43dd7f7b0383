use Rattle.std.proofs.Common.{◌≡◌, ℕ, List, [], false, ap, sym, subst, ◌∙◌, IfOk}
use Rattle.std.specs.List.{filter, range_with_len}
use Rattle.std.proofs.lemmas.List.Elements.{All-cons, All-nil}
use Rattle.pol_bitmap.specs.declared.Node.{Node}
use Rattle.pol_bitmap.specs.Nodes.{bits_of}
use Rattle.rules_between.specs.ChosenRules.{ChosenRules, sources_to_any}
use Rattle.pol_expand.specs.PlainTypes.{is_type_value}
use Rattle.pol_expand.specs.Inner.StoredEnds.{IsEnd}
use Rattle.rules_between.specs.Inner.RuleTables.{joins_through}
use Rattle.rules_between.proofs.Shared.{through_attribute, through_type}
use Rattle.rules_between.proofs.chosen_rules.ChosenRules.sources_through.Goals as goal

pub returns-then-is_type : goal.returns-then-is_type
returns-then-is_type c =
    let now = c.args.self.now in
    let type = ap (λ (r : ChosenRules). is_type_value r.policy c.args.end) (sym c.self.view_is) ∙ sym c.is_type.ensures ∙ c.if-is_type.true in
    subst (λ (xs : List ℕ). IfOk c.sources_at.result (λ (set : List Node). bits_of set ≡ xs)) (through_type now.policy now.rules (bits_of c.args.targets.now) c.args.end type) c.sources_at.ensures

pub types_of-requires-clause-ends : goal.types_of-requires-clause-ends
types_of-requires-clause-ends c =
    let policy = c.self.inside.policy.now in
    All-cons (IsEnd policy) c.args.end [] (subst (λ (r : ChosenRules). IsEnd r.policy c.args.end) (sym c.self.view_is) c.requires) (All-nil (IsEnd policy))

pub returns : goal.returns
returns c =
    let now = c.args.self.now in
    let inside = c.self.inside in
    let is = subst (λ (r : ChosenRules). IsEnd r.policy c.args.end) (sym c.self.view_is) c.requires in
    let attribute : is_type_value inside.policy.now c.args.end ≡ false = sym c.is_type.ensures ∙ c.if-is_type.false in
    subst (λ (xs : List ℕ). IfOk c.sources_of_any.result (λ (set : List Node). bits_of set ≡ xs))
    (ap (λ (r : ChosenRules). sources_to_any r.policy r.rules (bits_of c.in_ok-among.among)) (sym c.self.view_is)
    ∙ through_attribute inside.policy.now inside.table.rules.items (bits_of c.args.targets.now) (bits_of c.in_ok-members.members) (bits_of c.in_ok-among.among) c.args.end is attribute c.in_ok-members.ensures c.in_ok-among.ensures.bits
    ∙ ap (λ (r : ChosenRules). filter (joins_through r.policy r.rules (bits_of c.args.targets.now) c.args.end) (range_with_len 1 r.policy.symbols.types.nprim)) c.self.view_is) c.sources_of_any.ensures
