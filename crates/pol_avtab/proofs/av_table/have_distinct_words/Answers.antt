use Rattle.std.proofs.Common.{rules, refl, nat_lt}
use Rattle.std.proofs.lemmas.Fn.{always_returns_same}
use Rattle.pol_avtab.specs.Inner.DuplicateKeys.{words_of, is_shared}
use Rattle.pol_avtab.proofs.KeyWords.{distinct_of_rising}
use Rattle.pol_avtab.proofs.SharedWords.{distinct_of_tested}
use Rattle.pol_avtab.proofs.av_table.have_distinct_words.Goals as goal

pub returns : goal.returns
returns c = λ yes.
    distinct_of_tested (is_shared c.in_ok-marks.marks) (words_of c.args.table.now) c.in_ok-marks.ensures.twice
    (rw c.in_ok-words.ensures at (distinct_of_rising c.in_ok-words.words.items c.sort_unstable.new.self.items c.sort_unstable.ensures.permutation (rw (yes, c.deref.ensures.value) at (c.is_sorted_by.ensures.cases nat_lt (always_returns_same _ _ _ (λ a r f' called. (search (rules, called), refl)))))))
