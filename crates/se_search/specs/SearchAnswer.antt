-- The answer of sesearch about a policy that was accepted: the rules that meet what is asked, in the order in which rules are listed, a
-- line each, or a line for each rule between single types (this project's own).
use Rattle.std.specs.Prelude.{ℕ, List, ◌++◌, codes, map, Option, Some, None, if◌then◌else◌}
use Rattle.std.specs.List.{concat}
use Rattle.pol_file.specs.declared.Parts.{Parts}
use Rattle.set_products.specs.declared.Single.{Single}
use Rattle.rule_order.specs.ListedOrder.{in_rule_order}
use Rattle.rule_query.specs.declared.Refusal.{Refusal}
use Rattle.rule_query.specs.declared.Refusal.TheVariants.{NotThere, NoNumber}
use Rattle.rule_query.specs.GivenCriteria.{in_word_order}
use Rattle.rule_query.specs.Meeting.{meeting}
use Rattle.rule_query.specs.Refusals.{RefusedWord, first_refused}
use Rattle.rule_singles.specs.FoundSingles.{singles_listed}
use Rattle.rule_text.specs.RuleTexts.{single_text, text_of_rule}
use Rattle.se_items.specs.Paging.{page}
use Rattle.se_status.specs.declared.Status.{Status}
use Rattle.se_status.specs.declared.Status.TheVariants.{UnknownName, BadNumber}
use Rattle.se_status.specs.Conclusion.{Answer, done, refusal}
use Rattle.se_options.specs.SearchRequest.{SearchAsks}

-- the line of the rule of a number
unfoldable pub rule_line : Parts → ℕ → List ℕ
rule_line policy number = text_of_rule policy number ++ codes "\n"

-- the numbers of the rules that meet what is asked, in the order in which rules are listed
abbrev pub found_rules : SearchAsks → Parts → List ℕ
found_rules asks policy = in_rule_order policy (meeting policy asks.criteria)

-- the line of a rule between single types
unfoldable pub single_line : Parts → Single → List ℕ
single_line policy single = single_text policy single.rule single.source single.target ++ codes "\n"

-- the lines that are asked for, of those of all these rules
unfoldable pub rules_text : SearchAsks → Parts → List ℕ
rules_text asks policy = concat (page asks.from asks.limit (map (rule_line policy) (found_rules asks policy)))

-- and of those of all that they are between single types
unfoldable pub singles_text : SearchAsks → Parts → List ℕ
singles_text asks policy = concat (page asks.from asks.limit (map (single_line policy) (singles_listed policy asks.criteria (found_rules asks policy))))

-- the text that is asked for
unfoldable pub search_text : SearchAsks → Parts → List ℕ
search_text asks policy = if asks.singles then singles_text asks policy else rules_text asks policy

-- how a run ends of which a word is refused
abbrev pub status_for : Refusal → ℕ → Status
status_for NotThere word = UnknownName word
status_for NoNumber word = BadNumber word

-- the lines, unless a word is refused by its names or numbers
abbrev pub lines_unless : Option RefusedWord → List ℕ → Answer
lines_unless None text = done text
lines_unless (Some refused) text = refusal (status_for refused.refusal refused.word)

unfoldable pub search_answer : SearchAsks → Parts → Answer
search_answer asks policy = lines_unless (first_refused policy.symbols asks.criteria.kinds (in_word_order asks.criteria)) (search_text asks policy)
