use Rattle.se_status.proofs.Causes.{cause-alone}
use Rattle.se_status.proofs.message.say_fault.Goals as goal

pub returns-in_default : goal.returns-in_default
returns-in_default g c =
    rw (cause-alone c.args.fault.now.cause c.in_default.not-Dangling, ← c.word.ensures, ← c.word-2.ensures) c.say-in_default.ensures
