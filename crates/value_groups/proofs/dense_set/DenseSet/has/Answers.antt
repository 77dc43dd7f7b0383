use Rattle.std.proofs.Common.{ℕ, ◌/◌, ◌%◌, ◌<◌, ◌==◌, length, sym, ap, ◌∙◌, arith}
use Rattle.std.specs.Int.{bit_at}
use Rattle.std.proofs.lemmas.Bool.{le-ltb, false_from_ne_true}
use Rattle.std.proofs.lemmas.List.{get_or_default}
use Rattle.value_groups.specs.Among.{is_among}
use Rattle.value_groups.specs.Inner.Marking.{MarkedValues}
use Rattle.value_groups.specs.Inner.Dense.{word_has}
use Rattle.value_groups.proofs.Words.{among_values}
use Rattle.value_groups.proofs.dense_set.DenseSet.has.Goals as goal

pub returns-then-place-self : goal.returns-then-place-self
unfolding word_has
returns-then-place-self c =
    let words = c.self.inside.words.items in
    let value = c.args.value in
    let lt : value / 64 < length words = omega (arith, c.if-place-self.true, c.self.invariant.long) in
    ap (λ (w : ℕ). bit_at w (value % 64) == 1) (c.index.ensures ∙ get_or_default words (value / 64) c.index.result.now 0 lt)
    ∙ sym (among_values c.self.inside.count words value c.self.invariant)
    ∙ ap (λ (m : MarkedValues). is_among m.values value) c.self.view_is

pub returns-else-place-self : goal.returns-else-place-self
returns-else-place-self c =
    let words = c.self.inside.words.items in
    let value = c.args.value in
    le-ltb value c.self.inside.count c.if-place-self.false
    ∙ sym (false_from_ne_true (word_has words value) (λ there. omega (arith, c.self.invariant.within value there, c.if-place-self.false)))
    ∙ sym (among_values c.self.inside.count words value c.self.invariant)
    ∙ ap (λ (m : MarkedValues). is_among m.values value) c.self.view_is
