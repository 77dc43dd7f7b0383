-- The lines of a checklist's answer that are left. It serves the code alone.
use Rattle.std.specs.Prelude.{◌≡◌, ℕ, ◌+◌, ◌<◌, ◌≤◌, Bool, true, false, List, [], ◌∷◌, ◌++◌, ◌==◌, length, map, drop, if◌then◌else◌}
use Rattle.std.specs.List.{All, concat, filter, flat_map}
use Rattle.pol_fields.specs.declared.TableKind.TheVariants as tables
use Rattle.pol_cursor.specs.References.{name_of}
use Rattle.pol_symbols.specs.PolicySymbols.{name_in}
use Rattle.pol_file.specs.declared.Parts.{Parts}
use Rattle.pol_read.specs.StoredRules.{stored_rules}
use Rattle.rule_text.specs.RuleTexts.{text_of_rule}
use Rattle.check_list.specs.Checklists.{Check}
use Rattle.se_items.specs.Pieces.{Left}
use Rattle.se_verdicts.specs.declared.found.Found.{Found}
use Rattle.se_verdicts.specs.declared.found.FoundKind.{FoundKind}
use Rattle.se_verdicts.specs.declared.found.FoundKind.TheVariants.{Rules, Types}
use Rattle.se_verdicts.specs.declared.check_lines.CheckLines.{CheckLines}
use Rattle.se_verdicts.specs.CheckAnswer.{fails, found_line, lines_of_check, texts_of_check, total_line}

-- ---- what a check found

-- the text of a rule, or the name of a type
abbrev pub text_at : FoundKind → Parts → ℕ → List ℕ
text_at Rules policy value = text_of_rule policy value
text_at Types policy value = name_of (name_in policy.symbols) tables.Types value

-- A rule has the number of one.
abbrev pub IsThere : FoundKind → Parts → ℕ → Type 0
IsThere Rules policy value = value < length (stored_rules policy)
IsThere Types policy value = Unit {0}

-- the texts that are left
abbrev pub texts_left : Parts → Found → List (List ℕ)
texts_left policy found = map (text_at found.kind policy) (drop found.next found.values.items)

-- It is all that a check finds.
pub record IsFoundBy (policy : Parts) (check : Check) (found : Found) : Type 0 where
  pub first : found.next ≡ 0
  pub texts : map (text_at found.kind policy) found.values.items ≡ texts_of_check policy check
  pub there : All (IsThere found.kind policy) found.values.items

-- a check that finds so many fails, or does not
abbrev pub failed_by : ℕ → ℕ
failed_by count = if count == 0 then 0 else 1

-- ---- all lines

-- the line that counts the failed checks, unless it was made
abbrev pub last_left : Bool → ℕ → List (List ℕ)
last_left true failed = []
last_left false failed = total_line failed ∷ []

-- the lines of some checks, and the last one, where so many failed before
abbrev pub lines_from : Parts → List Check → Bool → ℕ → List (List ℕ)
lines_from policy checks ended failed = flat_map (lines_of_check policy) checks ++ last_left ended (failed + length (filter (fails policy) checks))

abbrev pub lines_with : Parts → Found → List Check → Bool → ℕ → List (List ℕ)
lines_with policy found checks ended failed = map found_line (texts_left policy found) ++ lines_from policy checks ended failed

abbrev pub lines_left : CheckLines → List (List ℕ)
lines_left lines = lines_with lines.checker.now lines.found (drop lines.next lines.list.now) lines.ended lines.failed

abbrev pub text_left : CheckLines → Left
text_left lines = record { text = concat (lines_left lines); pieces = length (lines_left lines) }

-- The first of the lines that were left was added to a buffer.
pub record AddsLine (old new : List (List ℕ)) (had has : List ℕ) : Type 0 where
  pub line : List ℕ
  pub lines : old ≡ line ∷ new
  pub text : has ≡ had ++ line

-- What is found is there, the texts are those of the policy, and no more checks failed than there were.
pub record IsStanding (lines : CheckLines) : Type 0 where
  pub policy : lines.texts.now ≡ lines.checker.now
  pub there : All (IsThere lines.found.kind lines.checker.now) lines.found.values.items
  pub next : lines.next ≤ length lines.list.now
  pub failed : lines.failed ≤ lines.next
