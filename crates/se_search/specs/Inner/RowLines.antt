-- The lines of a rule between one source and its targets: what serves the code alone.
use Rattle.std.specs.Prelude.{◌≡◌, ◌++◌, ℕ, List, Option, Some, None, ⊤, codes, drop, length, min, take}
use Rattle.std.specs.List.{flat_map}
use Rattle.pol_file.specs.declared.Parts.{Parts}
use Rattle.rule_text.specs.RuleFrames.{frame_head, frame_line}
use Rattle.rule_text.specs.RuleTexts.{single_text}
use Rattle.se_search.specs.declared.row_lines.SourceFrame.{SourceFrame}

-- the line of a rule, with its ends left open, is that of its number
pub record IsFrameOf (policy : Parts) (rule : ℕ) (last : SourceFrame) : Type 0 where
  pub rule_is : last.rule ≡ rule
  pub symbols : last.frame.symbols.now ≡ policy.symbols
  pub line : (source target : ℕ) → frame_line last.frame source target ≡ single_text policy rule source target ++ codes "\n"

-- what stands before and between the targets is that of a source
pub record IsHeadOf (source : ℕ) (last : SourceFrame) : Type 0 where
  pub head : last.head.items ≡ frame_head last.frame source
  pub between : last.between.items ≡ last.frame.rest.items ++ last.head.items

-- the last frame, if there was one, is that of a rule
abbrev pub IsLast : Parts → Option SourceFrame → Type 0
IsLast policy None = ⊤
IsLast policy (Some last) = IsFrameOf policy last.rule last

-- Of so many targets at most the texts were added to a buffer, and the others are left.
pub record PushesTargets (text_of : ℕ → List ℕ) (most : ℕ) (old new : List ℕ) (had has : List ℕ) (count : ℕ) : Type 0 where
  pub count_is : count ≡ min most (length old)
  pub left : new ≡ drop count old
  pub text : has ≡ had ++ flat_map text_of (take count old)
