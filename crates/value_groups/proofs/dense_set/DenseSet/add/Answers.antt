use Rattle.std.proofs.Common.{◌≡◌, ℕ, ◌*◌, ◌/◌, ◌%◌, ◌^◌, ◌<◌, ◌||◌, ◌==◌, Bool, length, get_or, set, bit_or, sym, ap, ◌∙◌, arith}
use Rattle.std.proofs.lemmas.Bool.{eqb-true}
use Rattle.std.proofs.lemmas.List.{length-set, get_or_default}
use Rattle.value_groups.specs.Among.{is_among}
use Rattle.value_groups.specs.Inner.Marking.{MarkedValues}
use Rattle.value_groups.specs.Inner.Dense.{word_has}
use Rattle.value_groups.proofs.Words.{among_values, dense_more, word_add}
use Rattle.value_groups.proofs.dense_set.DenseSet.add.Goals as goal

pub invariant_of-self : goal.invariant_of-self
invariant_of-self c =
    let words = c.self.inside.words.items in
    let value = c.args.value in
    let k = value / 64 in
    let below : value < c.self.inside.count = omega (arith, c.requires, ap (λ (m : MarkedValues). m.count) c.self.view_is) in
    let lt : k < length words = omega (arith, below, c.self.invariant.long) in
    let read : c.index_mut.result.now ≡ get_or words k 0 = c.index_mut.ensures.value ∙ get_or_default words k c.index_mut.result.now 0 lt in
    dense_more c.self.inside.count words _ (λ other. value == other) c.self.invariant (length-set words k _)
    (λ other. ap (λ (w : ℕ). word_has (set words k (bit_or w (1 * 2 ^ (value % 64) % 2 ^ 64))) other) read ∙ word_add words value other c.ranges.value.fits lt)
    (λ other e. omega (arith, eqb-true value other e, below))

pub returns-clause-each : goal.returns-clause-each
returns-clause-each c other =
    let words = c.self.inside.words.items in
    let value = c.args.value in
    let k = value / 64 in
    let below : value < c.self.inside.count = omega (arith, c.requires, ap (λ (m : MarkedValues). m.count) c.self.view_is) in
    let lt : k < length words = omega (arith, below, c.self.invariant.long) in
    let read : c.index_mut.result.now ≡ get_or words k 0 = c.index_mut.ensures.value ∙ get_or_default words k c.index_mut.result.now 0 lt in
    among_values c.self.inside.count _ other (invariant_of-self c)
    ∙ ap (λ (w : ℕ). word_has (set words k (bit_or w (1 * 2 ^ (value % 64) % 2 ^ 64))) other) read
    ∙ word_add words value other c.ranges.value.fits lt
    ∙ ap (λ (b : Bool). b || (value == other)) (sym (among_values c.self.inside.count words other c.self.invariant) ∙ ap (λ (m : MarkedValues). is_among m.values other) c.self.view_is)
