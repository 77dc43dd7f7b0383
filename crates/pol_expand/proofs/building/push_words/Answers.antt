use Rattle.std.proofs.Common.{◌≡◌, ℕ, ◌<◌, [], ◌++◌, List, length, slice_index_or, sym, ap, refl, ◌∙◌, arith}
use Rattle.std.proofs.lemmas.List.{get_or_read}
use Rattle.std.proofs.lemmas.List.Elements.{All-get_or}
use Rattle.pol_bitmap.specs.Nodes.{node_bits}
use Rattle.pol_expand.proofs.Gains.{pushing_next, pushing_room}
use Rattle.pol_expand.proofs.building.push_words.Goals as goal

pub push_word-requires-clause-above : goal.push_word-requires-clause-above
push_word-requires-clause-above c =
    let bits = c.args.bits.now in
    let i = c.loop-bit.bit-index in
    let bit = slice_index_or bits i 0 in
    let lists = c.loop-bit.lists in
    let below : bit < length c.args.lists.now = All-get_or (λ (b : ℕ). b < length c.args.lists.now) bits i 0 c.loop-bit-test.true c.requires.within in
    let within : bit < length lists = omega (arith, below, c.loop-bit.invariant.count) in
    let same : slice_index_or lists bit c.index-lists-place.result ≡ slice_index_or lists bit [] = sym c.index-lists-place.is ∙ get_or_read lists bit c.index-lists-place.result within c.index-lists-place.is [] in
    rw same (pushing_room bits c.args.start c.args.words.now i bit c.args.lists.now lists c.loop-bit.invariant c.requires.rise c.loop-bit-test.true refl c.requires.room)

pub loop-bit-preserved : goal.loop-bit-preserved
loop-bit-preserved c =
    let bits = c.args.bits.now in
    let i = c.loop-bit.bit-index in
    let bit = slice_index_or bits i 0 in
    let lists = c.loop-bit.lists in
    let words = c.args.words.now in
    let below : bit < length c.args.lists.now = All-get_or (λ (b : ℕ). b < length c.args.lists.now) bits i 0 c.loop-bit-test.true c.requires.within in
    let within : bit < length lists = omega (arith, below, c.loop-bit.invariant.count) in
    let same : slice_index_or lists bit c.index-lists-place.result ≡ slice_index_or lists bit [] = sym c.index-lists-place.is ∙ get_or_read lists bit c.index-lists-place.result within c.index-lists-place.is [] in
    pushing_next bits c.args.start words i bit c.args.lists.now lists c.push_word.new.self c.loop-bit.invariant c.requires.rise c.loop-bit-test.true refl within
    (c.in_ok-push_word.ensures ∙ ap (λ (xs : List ℕ). xs ++ node_bits (record { start = c.args.start; map = slice_index_or words bit 0 })) same)
