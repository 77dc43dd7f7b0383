-- Texts of edges that are kept from walk to walk.
use Rattle.std.specs.Prelude.{List, Option}
use Rattle.kept_texts.specs.KeptTexts.{AreTexts}
use Rattle.kept_texts.specs.declared.kept.KeptText.{KeptText}
use Rattle.se_walks.specs.WalkTexts.{EdgeWords, step_edge}

-- what is kept are edges as steps have them
abbrev pub AreStepTexts : EdgeWords → List (Option KeptText) → Type 0
AreStepTexts words kept = AreTexts (step_edge words) kept
