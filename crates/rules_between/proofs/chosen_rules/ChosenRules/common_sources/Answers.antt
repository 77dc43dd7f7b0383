use Rattle.std.proofs.Common.{◌≡◌, ℕ, List, ap, sym, subst, ◌∙◌, IfOk}
use Rattle.std.specs.List.{All}
use Rattle.pol_bitmap.specs.declared.Node.{Node}
use Rattle.pol_bitmap.specs.Nodes.{bits_of}
use Rattle.pol_expand.specs.PolicyMap.{IsPolicyMap}
use Rattle.pol_file.specs.declared.Parts.{Parts}
use Rattle.value_groups.specs.Among.{is_among}
use Rattle.rules_between.specs.ChosenRules.{ChosenRules}
use Rattle.rules_between.specs.Inner.RuleTables.{HaveEnds}
use Rattle.pol_expand.specs.Inner.StoredEnds.{IsEnd}
use Rattle.pol_expand.proofs.Holders.{touching_holds}
use Rattle.rules_between.proofs.Shared.{shared_are, touching_are_ends}
use Rattle.rules_between.proofs.chosen_rules.ChosenRules.common_sources.Goals as goal

pub sources_by_ends-requires-clause-ends : goal.sources_by_ends-requires-clause-ends
sources_by_ends-requires-clause-ends c =
    let policy = c.args.self.now.policy in
    let map = subst (λ (r : ChosenRules). IsPolicyMap r.policy c.self.inside.types.now) c.self.view_is c.self.invariant.0 in
    subst (All (IsEnd policy)) (sym (c.deref.ensures.value ∙ c.in_ok-ends.ensures)) (touching_are_ends policy c.self.inside.types.now c.args.targets.now (bits_of c.in_ok-touching.touching) map c.in_ok-touching.ensures)

pub returns : goal.returns
returns c =
    let now = c.args.self.now in
    let others = c.args.others.now in
    let map = subst (λ (r : ChosenRules). IsPolicyMap r.policy c.self.inside.types.now) c.self.view_is c.self.invariant.0 in
    let own = c.have_ends.ensures in
    let theirs = subst (λ (p : Parts). HaveEnds p others.rules) c.requires c.have_ends-2.ensures in
    let ends = c.deref.result.now in
    let is = c.deref.ensures.value ∙ c.in_ok-ends.ensures in
    let are = subst (All (IsEnd now.policy)) (sym is) (touching_are_ends now.policy c.self.inside.types.now c.args.targets.now (bits_of c.in_ok-touching.touching) map c.in_ok-touching.ensures) in
    let touch = λ (value : ℕ) (e : IsEnd now.policy value). ap (λ (xs : List ℕ). is_among xs value) is ∙ touching_holds now.policy c.self.inside.types.now c.args.targets.now (bits_of c.in_ok-touching.touching) value map c.in_ok-touching.ensures e in
    subst (λ (xs : List ℕ). IfOk c.sources_by_ends.result (λ (set : List Node). bits_of set ≡ xs))
    (shared_are now.policy now.rules own.0 own.1 others.rules theirs.0 theirs.1 (bits_of c.args.targets.now) ends own.2 theirs.2 are touch) c.sources_by_ends.ensures
