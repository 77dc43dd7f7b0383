use Rattle.se_status.proofs.message.report.Goals as goal

pub returns-in-CannotHold : goal.returns-in-CannotHold
returns-in-CannotHold g c = rw c.in-CannotHold.is c.say_unheld.ensures

pub returns-in-BadNumber : goal.returns-in-BadNumber
returns-in-BadNumber g c = rw c.in-BadNumber.is c.say_word-in-BadNumber.ensures

pub returns-in-WriteFault : goal.returns-in-WriteFault
returns-in-WriteFault g c = rw c.in-WriteFault.is c.say_text.ensures

pub returns-in-Memory : goal.returns-in-Memory
returns-in-Memory g c = rw c.in-Memory.is c.say_text-in-Memory.ensures
