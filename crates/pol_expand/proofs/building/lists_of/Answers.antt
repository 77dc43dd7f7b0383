use Rattle.std.proofs.Common.{◌≡◌, ◌+◌, ◌*◌, ◌<◌, List, ℕ, length, subst, sym, ap, ◌∙◌, arith}
use Rattle.std.specs.List.{All}
use Rattle.pol_expand.specs.Inner.Inverting.{attribute_bits, AreListsBelow, AreWords, GainNodes}
use Rattle.pol_expand.proofs.Gains.{attribute_bits_rise, attribute_bits_within, lists_room, lists_next, lists_end, whole}
use Rattle.pol_expand.proofs.building.lists_of.Goals as goal

pub push_words-requires-clause-within : goal.push_words-requires-clause-within
push_words-requires-clause-within c =
    let rows = c.args.rows.now in
    let bits : c.deref-in-loop-block.result.now ≡ attribute_bits c.args.attributes.now (length rows) = c.deref-in-loop-block.ensures.value ∙ c.in_ok-bits.ensures in
    let count : length rows ≡ length c.deref_mut.result.now = sym (ap (length {A = List ℕ}) c.deref_mut.ensures.value ∙ c.loop-block.invariant.count) in
    subst (λ (n : ℕ). All (λ bit. bit < n) c.deref-in-loop-block.result.now) count (rw bits (attribute_bits_within c.args.attributes.now (length rows)))

pub push_words-requires-clause-rise : goal.push_words-requires-clause-rise
push_words-requires-clause-rise c =
    let rows = c.args.rows.now in
    rw (c.deref-in-loop-block.ensures.value ∙ c.in_ok-bits.ensures) (attribute_bits_rise c.args.attributes.now (length rows))

pub push_words-requires-clause-room : goal.push_words-requires-clause-room
push_words-requires-clause-room c =
    rw (c.deref-in-loop-block.ensures.value, c.deref_mut.ensures.value)
    (lists_room c.args.rows.now c.args.types.now c.in_ok-bits.bits.items (c.loop-block.block * 64) c.loop-block.lists.items c.loop-block.invariant)

pub loop-block-preserved : goal.loop-block-preserved
loop-block-preserved c =
    let rows = c.args.rows.now in
    let types = c.args.types.now in
    let bits = c.in_ok-bits.bits.items in
    let start = c.loop-block.block * 64 in
    let lists = c.loop-block.lists.items in
    let next = c.push_words.new.lists in
    let old = c.deref_mut.result.now in
    let within : All (λ bit. bit < length rows) bits = rw c.in_ok-bits.ensures (attribute_bits_within c.args.attributes.now (length rows)) in
    let words : AreWords rows types start 64 c.deref.result.now = subst (AreWords rows types start 64) (sym c.deref.ensures.value) c.in_ok-words.ensures in
    let before : AreListsBelow rows types bits start old = subst (AreListsBelow rows types bits start) (sym c.deref_mut.ensures.value) c.loop-block.invariant in
    let gains : GainNodes bits start c.deref.result.now old next = subst (λ (bs : List ℕ). GainNodes bs start c.deref.result.now old next) c.deref-in-loop-block.ensures.value c.in_ok-push_words.ensures in
    let after : AreListsBelow rows types bits (start + 64) next = lists_next rows types bits start c.deref.result.now old next within before words gains in
    let further : start + 64 ≡ (c.loop-block.block + 1) * 64 = omega arith in
    let same = c.deref_mut.ensures.value in
    let all : length lists ≡ c.loop-block.lists.len = omega (arith, c.loop-block.lists.ok) in
    let still : length next ≡ c.loop-block.lists.len = omega (arith, gains.count, ap (length {A = List ℕ}) same, all) in
    subst (AreListsBelow rows types bits ((c.loop-block.block + 1) * 64)) (whole lists next c.loop-block.lists.len all still) (subst (λ (n : ℕ). AreListsBelow rows types bits n next) further after)

pub returns : goal.returns
returns c =
    let rows = c.args.rows.now in
    lists_end rows c.args.attributes.now c.args.types.now c.in_ok-bits.bits.items (c.loop-block.block * 64) c.loop-block.lists.items c.in_ok-bits.ensures c.requires.types
    (omega (arith, c.loop-block-test.false)) c.loop-block.invariant
