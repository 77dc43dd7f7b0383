use Rattle.std.proofs.Common.{ℕ, ◌<◌, ◌||◌, Bool, List, sym, ap, ◌∙◌, arith}
use Rattle.std.proofs.lemmas.List.Elements.{All-contains}
use Rattle.pol_bitmap.specs.declared.Node.{Node}
use Rattle.pol_bitmap.specs.Nodes.{bits_of, has_bit}
use Rattle.pol_bitmap.proofs.BitLists.{bits-from_has_bit}
use Rattle.value_groups.specs.Among.{is_among}
use Rattle.value_groups.specs.Inner.Marking.{MarkedValues}
use Rattle.value_groups.specs.Inner.Dense.{word_has}
use Rattle.value_groups.proofs.Words.{among_bits, among_values, dense_more}
use Rattle.value_groups.proofs.dense_set.DenseSet.add_set.Goals as goal

pub invariant_of-self : goal.invariant_of-self
invariant_of-self c =
    let nodes = c.args.set.now in
    let words = c.self.inside.words.items in
    dense_more c.self.inside.count words c.add_nodes.new.words.items (has_bit nodes) c.self.invariant c.add_nodes.ensures.long
    (λ value. c.add_nodes.ensures.each value ∙ ap (λ (ns : List Node). word_has words value || has_bit ns value) c.nodes.ensures.nodes)
    (λ value there. omega (arith, All-contains (λ (v : ℕ). v < c.args.self.now.count) (bits_of nodes) value c.requires (bits-from_has_bit nodes value there), ap (λ (m : MarkedValues). m.count) c.self.view_is))

pub returns-clause-each : goal.returns-clause-each
returns-clause-each c value =
    let nodes = c.args.set.now in
    let words = c.self.inside.words.items in
    among_values c.self.inside.count c.add_nodes.new.words.items value (invariant_of-self c)
    ∙ c.add_nodes.ensures.each value
    ∙ ap (λ (ns : List Node). word_has words value || has_bit ns value) c.nodes.ensures.nodes
    ∙ ap (λ (b : Bool). b || has_bit nodes value) (sym (among_values c.self.inside.count words value c.self.invariant) ∙ ap (λ (m : MarkedValues). is_among m.values value) c.self.view_is)
    ∙ ap (λ (b : Bool). is_among c.args.self.now.values value || b) (sym (among_bits nodes value))
