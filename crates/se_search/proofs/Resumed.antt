-- Some lines of a search, and then those after them.
use Rattle.std.proofs.Common.{◌≡◌, ◌+◌, ◌++◌, ℕ, Bool, true, false, List, Option, Some, None, map, refl}
use Rattle.std.specs.Prelude.{if◌then◌else◌}
use Rattle.pol_file.specs.declared.Parts.{Parts}
use Rattle.rule_query.specs.GivenCriteria.{in_word_order}
use Rattle.rule_query.specs.Refusals.{RefusedWord, first_refused}
use Rattle.rule_singles.specs.FoundSingles.{singles_listed}
use Rattle.se_items.proofs.Resuming.{texts_then}
use Rattle.se_options.specs.SearchRequest.{SearchAsks}
use Rattle.se_search.specs.SearchAnswer.{found_rules, lines_unless, rule_line, rules_text, search_answer, search_text, single_line, singles_text}

by-singles : (singles : Bool) (a b c d e f : List ℕ) → a ++ c ≡ e → b ++ d ≡ f → (if singles then a else b) ++ (if singles then c else d) ≡ (if singles then e else f)
by-singles true a b c d e f p q = p
by-singles false a b c d e f p q = q

by-word : (refused : Option RefusedWord) (front rest whole : List ℕ) → front ++ rest ≡ whole → (lines_unless refused front).text ++ (lines_unless refused rest).text ≡ (lines_unless refused whole).text
by-word None front rest whole is = is
by-word (Some refused) front rest whole is = refl

pub answer_then : (asks : SearchAsks) (policy : Parts) (count : ℕ)
    → (search_answer (record asks { limit = Some count }) policy).text ++ (search_answer (record asks { from = asks.from + count; limit = None }) policy).text ≡ (search_answer (record asks { limit = None }) policy).text
unfolding search_answer search_text rules_text singles_text
answer_then asks policy count =
    by-word (first_refused policy.symbols asks.criteria.kinds (in_word_order asks.criteria)) _ _ _
    (by-singles asks.singles _ _ _ _ _ _ (texts_then asks.from count (map (single_line policy) (singles_listed policy asks.criteria (found_rules asks policy))))
    (texts_then asks.from count (map (rule_line policy) (found_rules asks policy))))
