use Rattle.std.proofs.Common.{arith}
use Rattle.std.proofs.lemmas.Grind.{common_steps}
use Rattle.se_words.proofs.Endings.{before-none, before-some}
use Rattle.se_words.proofs.values.name_before.Goals as goal

pub returns-in_err-name : goal.returns-in_err-name
returns-in_err-name c = rw c.from_residual.ensures (before-none c.args.ending.now c.args.text.now c.in_err-name.ensures.cases)

pub returns-else-is_empty : goal.returns-else-is_empty
returns-else-is_empty c =
    before-some c.args.ending.now c.args.text.now c.in_ok-name.name.now c.in_ok-name.ensures.cases (grind (arith, common_steps, c.is_empty.ensures, c.if-is_empty.false))
