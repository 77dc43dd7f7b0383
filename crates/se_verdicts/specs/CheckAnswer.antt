-- The answer of sechecker about a policy that was accepted, and the bytes of a checklist: the checks of the list in its order, each with
-- what it finds, and how many failed.
use Rattle.std.specs.Prelude.{ℕ, Bool, ◌==◌, not, List, [], ◌∷◌, ◌++◌, length, map, codes, decimal, Option, Some, None, Result, Ok, Err, ⊤, if◌then◌else◌}
use Rattle.std.specs.List.{concat, filter, flat_map}
use Rattle.pol_fields.specs.declared.TableKind.TheVariants as tables
use Rattle.pol_cursor.specs.References.{name_of}
use Rattle.pol_symbols.specs.PolicySymbols.{name_in}
use Rattle.pol_file.specs.declared.Parts.{Parts}
use Rattle.rule_text.specs.RuleTexts.{text_of_rule}
use Rattle.check_list.specs.declared.ListFault.{ListFault}
use Rattle.check_list.specs.CheckWords.{kind_word}
use Rattle.check_list.specs.Checklists.{Check, list_of}
use Rattle.se_checker.specs.KnownNames.{unknown_name}
use Rattle.se_checker.specs.Verdicts.{Verdict, Rules, Types, verdict_of}
use Rattle.se_status.specs.declared.Status.{Status}
use Rattle.se_status.specs.declared.Status.TheVariants.{Done, BadList, WriteFault, Memory}
use Rattle.se_status.specs.Conclusion.{Answer, done, refusal}

-- ---- one check

-- what is found: rules by their texts, or types by their names
abbrev pub found_texts : Parts → Verdict → List (List ℕ)
found_texts policy (Rules numbers) = map (text_of_rule policy) numbers
found_texts policy (Types types) = map (name_of (name_in policy.symbols) tables.Types) types

-- what a check of a policy finds
abbrev pub texts_of_check : Parts → Check → List (List ℕ)
texts_of_check policy check = found_texts policy (verdict_of policy check)

-- a check that finds nothing passes
abbrev pub fails : Parts → Check → Bool
fails policy check = not (length (texts_of_check policy check) == 0)

-- ---- lines

-- the words of a check that finds so many
unfoldable pub outcome_text : ℕ → List ℕ
outcome_text count = if count == 0 then codes "pass" else codes "fail " ++ decimal count

-- NAME KIND pass, or NAME KIND fail N
unfoldable pub check_line : Check → ℕ → List ℕ
check_line check count = check.name ++ codes " " ++ kind_word check.kind ++ codes " " ++ outcome_text count ++ codes "\n"

-- what is found stands after three spaces
unfoldable pub found_line : List ℕ → List ℕ
found_line text = codes "   " ++ text ++ codes "\n"

unfoldable pub total_line : ℕ → List ℕ
total_line failed = codes "Failed checks: " ++ decimal failed ++ codes "\n"

-- the lines of a check
abbrev pub lines_of_check : Parts → Check → List (List ℕ)
lines_of_check policy check = check_line check (length (texts_of_check policy check)) ∷ map found_line (texts_of_check policy check)

-- the lines of all checks, and the line that counts the failed ones
abbrev pub lines_of_checks : Parts → List Check → List (List ℕ)
lines_of_checks policy checks = flat_map (lines_of_check policy) checks ++ total_line (length (filter (fails policy) checks)) ∷ []

unfoldable pub checks_text : Parts → List Check → List ℕ
checks_text policy checks = concat (lines_of_checks policy checks)

-- ---- the answer

-- a text, unless the list is refused
abbrev pub text_unless_fault : Option ListFault → List ℕ → Answer
text_unless_fault None text = done text
text_unless_fault (Some fault) text = refusal (BadList fault)

-- the answer about a list that reads, unless it has a name that the policy lacks
abbrev pub answer_of_list : Parts → Result (List Check) ListFault → Answer
answer_of_list policy (Ok checks) = text_unless_fault (unknown_name policy.symbols checks) (checks_text policy checks)
answer_of_list policy (Err fault) = refusal (BadList fault)

unfoldable pub check_answer : Parts → List ℕ → Answer
check_answer policy bytes = answer_of_list policy (list_of bytes)

-- What a list that was read ends with: the list alone can be refused.
abbrev pub IsOfList : Status → Type 0
IsOfList Done = ⊤
IsOfList (BadList fault) = ⊤
IsOfList WriteFault = ⊤
IsOfList Memory = ⊤
IsOfList status = ⊥
