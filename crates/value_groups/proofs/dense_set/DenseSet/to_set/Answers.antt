use Rattle.std.proofs.Common.{◌≡◌, ℕ, List, ap, ◌∙◌, arith}
use Rattle.std.proofs.lemmas.Result.{IfOk-weaker}
use Rattle.pol_bitmap.specs.declared.Node.{Node}
use Rattle.pol_bitmap.specs.Nodes.{bits_of}
use Rattle.value_groups.specs.Inner.Marking.{MarkedValues}
use Rattle.value_groups.specs.Inner.Dense.{word_has, values_in}
use Rattle.value_groups.proofs.Words.{nodes_pass}
use Rattle.value_groups.proofs.dense_set.DenseSet.to_set.Goals as goal

pub returns-clause-bits : goal.returns-clause-bits
unfolding values_in
returns-clause-bits c =
    let words = c.self.inside.words.items in
    let count = c.self.inside.count in
    let nodes = c.in_ok-nodes.nodes.items in
    let bits : bits_of nodes ≡ values_in count words =
    nodes_pass (word_has words) 0 count nodes c.in_ok-nodes.ensures.set (λ value. c.in_ok-nodes.ensures.each value ∙ ap (λ (ws : List ℕ). word_has ws value) c.deref.ensures.value) (λ value there. (omega arith, omega (arith, c.self.invariant.within value there))) in
    let seen : bits_of nodes ≡ c.args.self.now.values = bits ∙ ap (λ (m : MarkedValues). m.values) c.self.view_is in
    IfOk-weaker c.from_nodes.result (λ set. set ≡ nodes) (λ set. bits_of set ≡ c.args.self.now.values) (λ set e. ap (λ (ns : List Node). bits_of ns) e ∙ seen) c.from_nodes.ensures
