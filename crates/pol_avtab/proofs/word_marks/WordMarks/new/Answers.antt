use Rattle.std.proofs.Common.{◌≡◌, ℕ, ◌-◌, ◌*◌, ◌%◌, ◌^◌, List, replicate, ap, ◌∙◌, rules, arith}
use Rattle.pol_avtab.specs.Inner.DuplicateKeys.{is_met, is_shared}
use Rattle.pol_avtab.proofs.SharedWords.{some_shift, none_met, none_shared}
use Rattle.pol_avtab.proofs.word_marks.WordMarks.new.Goals as goal

pub invariant_of-result : goal.invariant_of-result
invariant_of-result c =
    let some = some_shift c.args.words c.ranges.words.fits in
    record { least = omega (arith, some, c.min-shift.ensures); most = omega (arith, c.min-shift.ensures); long = search rules }

pub returns : goal.returns
returns c =
    let shift = c.min-shift.result in
    let count = 1 * 2 ^ (59 - shift) % 2 ^ 64 in
    let zeros : c.in_ok-bits.bits.items ≡ replicate count 0 = c.in_ok-bits.ensures.items_if_clones_equal (λ y e. e) in
    record {
      met = λ word. ap (λ (bits : List ℕ). is_met (record { shift = shift; bits = bits }) word) zeros ∙ none_met shift count word;
      shared = λ word. ap (λ (bits : List ℕ). is_shared (record { shift = shift; bits = bits }) word) zeros ∙ none_shared shift count word;
    }
