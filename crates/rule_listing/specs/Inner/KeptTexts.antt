-- Texts that are kept from line to line: what serves the code alone.
use Rattle.std.specs.Prelude.{◌≡◌, ℕ, List, ◌++◌, Option, Some, None, ⊤, codes, length}
use Rattle.std.specs.List.{All}
use Rattle.pol_symbols.specs.PolicySymbols.{name_in}
use Rattle.pol_symbols.specs.declared.Symbols.{Symbols}
use Rattle.pol_file.specs.declared.Parts.{Parts}
use Rattle.pol_read.specs.StoredRules.{StoredRule}
use Rattle.pol_read.specs.declared.rule.RuleEnds.{RuleEnds}
use Rattle.pol_read.specs.declared.rule.RuleKind.{RuleKind}
use Rattle.pol_read.specs.declared.rule.RulePart.{RulePart}
use Rattle.pol_read.specs.declared.rule.RulePart.TheVariants as parts
use Rattle.rule_listing.specs.declared.kept_head.HeadKey.{HeadKey}
use Rattle.rule_listing.specs.declared.kept_head.KeptHead.{KeptHead}
use Rattle.rule_listing.specs.declared.kept_texts.KeptText.{KeptText}
use Rattle.rule_listing.specs.declared.kept_texts.TextKey.{TextKey}
use Rattle.rule_listing.specs.declared.kept_texts.TextKey.TheVariants.{Perms, Under}
use Rattle.rule_text.specs.RuleFrames.{head_text, given_text}
use Rattle.rule_text.specs.RuleTexts.{ends_text, file_name_text, keyword}
use Rattle.rule_text.specs.ConditionTexts.{condition_text}

-- A kept text is the head of its kind and source.
abbrev pub IsHeadOf : Symbols → List ℕ → Option HeadKey → Type 0
IsHeadOf symbols text None = ⊤
IsHeadOf symbols text (Some key) = text ≡ head_text symbols key.kind key.source

abbrev pub IsHead : Symbols → KeptHead → Type 0
IsHead symbols head = IsHeadOf symbols head.text.items head.key

-- what a rule begins with: its first word, and its ends
abbrev pub begun_text : Symbols → RuleEnds → List ℕ
begun_text symbols ends = keyword ends.kind ++ codes " " ++ ends_text symbols ends.kind ends.source ends.target

-- what stands between its ends and its condition
abbrev pub ended_with : Symbols → RuleKind → ℕ → RulePart → Option (List ℕ) → List ℕ
ended_with symbols kind class part name = given_text symbols kind class part ++ file_name_text name ++ codes ";"

abbrev pub ended_text : Symbols → StoredRule → List ℕ
ended_text symbols rule = ended_with symbols rule.kind rule.class rule.part rule.name

-- the text of what a key stands for
abbrev pub text_of : Parts → TextKey → List ℕ
text_of policy (Perms kind class mask) = ended_with policy.symbols kind class (parts.Perms mask) None
text_of policy (Under condition) = condition_text (name_in policy.symbols) policy.rules.conditionals (Some condition)

-- What a slot keeps, if it does, is the text of its key.
abbrev pub IsKept : Parts → Option KeptText → Type 0
IsKept policy None = ⊤
IsKept policy (Some kept) = kept.text.items ≡ text_of policy kept.key

-- so in each of 2,048 slots
pub record AreKept (policy : Parts) (slots : List (Option KeptText)) : Type 0 where
  pub count : length slots ≡ 2048
  pub each : All (IsKept policy) slots
