-- The line of a rule in pieces, and with its ends left open.
use Rattle.std.specs.Prelude.{ℕ, List, ◌++◌, codes}
use Rattle.pol_cursor.specs.References.{name_of}
use Rattle.pol_symbols.specs.PolicySymbols.{name_in}
use Rattle.pol_symbols.specs.declared.Symbols.{Symbols}
use Rattle.pol_read.specs.RuleKinds.{source_table, target_table}
use Rattle.pol_read.specs.declared.rule.RuleKind.{RuleKind}
use Rattle.pol_read.specs.declared.rule.RulePart.{RulePart}
use Rattle.pol_read.specs.StoredRules.{StoredRule}
use Rattle.rule_text.specs.declared.rule_frame.RuleFrame.{RuleFrame}
use Rattle.rule_text.specs.RuleTexts.{keyword, class_text, part_text, file_name_text}

-- what stands before a target: the first word, and a source by its name
unfoldable pub head_text : Symbols → RuleKind → ℕ → List ℕ
head_text symbols kind source = keyword kind ++ codes " " ++ name_of (name_in symbols) (source_table kind) source ++ codes " "

-- what stands before the targets of a source
unfoldable pub frame_head : RuleFrame → ℕ → List ℕ
frame_head frame source = head_text frame.symbols.now frame.kind source

-- a target by its name
unfoldable pub frame_target : RuleFrame → ℕ → List ℕ
frame_target frame target = name_of (name_in frame.symbols.now) (target_table frame.kind) target

-- the line between two ends
abbrev pub frame_line : RuleFrame → ℕ → ℕ → List ℕ
frame_line frame source target = frame_head frame source ++ frame_target frame target ++ frame.rest.items

-- the class of a rule and what the rule gives
unfoldable pub given_text : Symbols → RuleKind → ℕ → RulePart → List ℕ
given_text symbols kind class part = class_text symbols kind class ++ part_text symbols kind class part

-- what stands between that and the condition
abbrev pub end_text : StoredRule → List ℕ
end_text rule = file_name_text rule.name ++ codes ";"
