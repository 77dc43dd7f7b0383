use Rattle.std.proofs.Common.{take}
use Rattle.numbered_rules.specs.Forms.{HaveSets}
use Rattle.numbered_rules.specs.Inner.Blocks.{AreOfBlock}
use Rattle.numbered_rules.proofs.block.forms_in.Given as goal

abbrev pub invariant-loop-form : goal.invariant-loop-form
invariant-loop-form l = HaveSets l.pool l.found.items × AreOfBlock l.pool l.block (take l.form-index l.forms) l.found.items
