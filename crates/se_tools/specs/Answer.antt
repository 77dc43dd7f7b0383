-- The answer of the program to the words about the contents of the files.
use Rattle.std.specs.Prelude.{ℕ, List, [], length, Option, Some, None, Result, Ok, Err, nat_lt, if◌then◌else◌}
use Rattle.pol_fields.specs.declared.limits.TheConstants.{MAX_POLICY_BYTES}
use Rattle.text_rows.specs.declared.limits.TheConstants.{MAX_TEXT_BYTES}
use Rattle.pol_fields.specs.declared.Fault.{Fault}
use Rattle.pol_file.specs.Acceptance.{accept}
use Rattle.pol_file.specs.declared.Parts.{Parts}
use Rattle.rule_query.specs.GivenCriteria.{Given}
use Rattle.se_outside.specs.declared.Slot.{Slot}
use Rattle.se_outside.specs.declared.Slot.TheVariants.{Policy, Map, List as Checklist}
use Rattle.se_options.specs.Request.{Asks, About, Make, Question, Info, Search, Dom, Flow, Convert, Check, policy_of}
use Rattle.se_search.specs.SearchAnswer.{search_answer}
use Rattle.se_search.specs.SearchPatterns.{pattern_words}
use Rattle.se_dom.specs.DomAnswer.{dom_answer}
use Rattle.se_flow.specs.FlowAnswer.{flow_answer}
use Rattle.se_convert.specs.ConvertAnswer.{convert_answer}
use Rattle.se_verdicts.specs.CheckAnswer.{check_answer}
use Rattle.se_make.specs.MakeAnswer.{make_answer}
use Rattle.se_status.specs.declared.Status.TheVariants.{Usage, ReadFault, TooLarge, BadPolicy}
use Rattle.se_status.specs.Conclusion.{Answer, refusal}
use Rattle.se_info.specs.InfoAnswer.{info_answer}

-- the bytes of the file of each slot, if it is there
abbrev pub Contents : Type 0
Contents = Slot → Option (List ℕ)

-- the most bytes of a slot's file: 64 MiB of a policy, 4 MiB of a permission map or a checklist
abbrev pub file_limit : Slot → ℕ
file_limit Policy = MAX_POLICY_BYTES
file_limit Map = MAX_TEXT_BYTES
file_limit Checklist = MAX_TEXT_BYTES

-- an answer by the bytes of a slot's file, if it is there and they are not too many
unfoldable pub by_file : Slot → Option (List ℕ) → (List ℕ → Answer) → Answer
by_file slot None answer = refusal (ReadFault slot)
by_file slot (Some bytes) answer = if nat_lt (file_limit slot) (length bytes) then refusal (TooLarge slot) else answer bytes

-- The answer about a policy that was accepted, tool by tool. seinfoflow is asked about a permission map too, and sechecker about a
-- checklist.
abbrev pub answer_about : Question → Parts → Contents → Answer
answer_about (Info asks) policy contents = info_answer asks policy
answer_about (Search asks) policy contents = search_answer asks policy
answer_about (Dom asks) policy contents = dom_answer asks policy
answer_about (Flow asks) policy contents = by_file Map (contents Map) (flow_answer asks policy)
answer_about (Convert asks) policy contents = convert_answer asks.version policy
answer_about (Check asks) policy contents = by_file Checklist (contents Checklist) (check_answer policy)

-- the answer about a policy, if it was accepted
abbrev pub policy_answer : Question → Result Parts Fault → Contents → Answer
policy_answer question (Ok policy) contents = answer_about question policy contents
policy_answer question (Err fault) contents = refusal (BadPolicy fault)

-- the answer to what the words ask, about the contents of the files
abbrev pub answer_of : Result Asks ℕ → Contents → Answer
answer_of (Err word) contents = refusal (Usage word)
answer_of (Ok (Make asks)) contents = make_answer asks
answer_of (Ok (About question)) contents = by_file Policy (contents Policy) (λ bytes. policy_answer question (accept bytes) contents)

-- the name under which a question asks for a permission map, if it does
abbrev pub map_in : Question → Option (List ℕ)
map_in (Flow asks) = Some asks.map_file.text
map_in question = None

-- that under which it asks for a checklist
abbrev pub list_in : Question → Option (List ℕ)
list_in (Check asks) = Some asks.list.text
list_in question = None

-- that under which it asks for the file of a slot
abbrev pub name_in : Question → Slot → Option (List ℕ)
name_in question Policy = Some (policy_of question).text
name_in question Map = map_in question
name_in question Checklist = list_in question

-- the name under which words ask for it, if they do
abbrev pub asked_name : Result Asks ℕ → Slot → Option (List ℕ)
asked_name (Ok (About question)) slot = name_in question slot
asked_name asks slot = None

-- the version at which a question asks for a policy, if it does
abbrev pub version_in : Question → Option ℕ
version_in (Convert asks) = Some asks.version
version_in question = None

abbrev pub asked_version : Result Asks ℕ → Option ℕ
asked_version (Ok (About question)) = version_in question
asked_version asks = None

-- the words of a question that are patterns, in their order
abbrev pub patterns_in : Question → List Given
patterns_in (Search asks) = pattern_words asks.criteria
patterns_in question = []

abbrev pub asked_patterns : Result Asks ℕ → List Given
asked_patterns (Ok (About question)) = patterns_in question
asked_patterns asks = []
