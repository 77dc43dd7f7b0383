use Rattle.se_status.proofs.message.say_unheld.Goals as goal

pub returns : goal.returns
returns g c = rw (← c.word.ensures) c.say.ensures
