use Rattle.std.proofs.Common.{◌≡◌, ℕ, List, IfOk, append-nil, ap, sym, subst, ◌∙◌, ◌++◌}
use Rattle.std.specs.List.{filter}
use Rattle.std.specs.List.Sorted.{IsStrictlyIncreasing}
use Rattle.std.proofs.lemmas.List.Kept.{IsStrictlyIncreasing-filter}
use Rattle.pol_bitmap.specs.declared.Node.{Node}
use Rattle.pol_bitmap.specs.Nodes.{bits_of}
use Rattle.pol_bitmap.proofs.BitLists.{bits_increasing}
use Rattle.pol_expand.specs.JoinedTypes.{any_joins}
use Rattle.rules_between.proofs.chosen_rules.ChosenRules.looked_up.Goals as goal

pub from_rising-requires : goal.from_rising-requires
from_rising-requires c =
    let joined = any_joins c.args.self.now.policy c.args.self.now.rules c.args.source in
    let found : c.loop-target.found.items ≡ filter joined (bits_of c.args.among.now) =
    sym (append-nil c.loop-target.found.items) ∙ sym (ap (λ (xs : List ℕ). c.loop-target.found.items ++ filter joined xs) c.in-None.ensures.steps.0) ∙ c.loop-target.invariant in
    subst IsStrictlyIncreasing (sym (c.deref.ensures.value ∙ found)) (IsStrictlyIncreasing-filter joined (bits_of c.args.among.now) (bits_increasing 0 c.args.among.now c.nodes.ensures.form.0))

pub returns : goal.returns
returns c =
    let joined = any_joins c.args.self.now.policy c.args.self.now.rules c.args.source in
    let found : c.loop-target.found.items ≡ filter joined (bits_of c.args.among.now) =
    sym (append-nil c.loop-target.found.items) ∙ sym (ap (λ (xs : List ℕ). c.loop-target.found.items ++ filter joined xs) c.in-None.ensures.steps.0) ∙ c.loop-target.invariant in
    subst (λ (xs : List ℕ). IfOk c.from_rising.result (λ (set : List Node). bits_of set ≡ xs)) (c.deref.ensures.value ∙ found) c.from_rising.ensures.bits
