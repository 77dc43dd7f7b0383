use Rattle.se_status.proofs.message.say_list_fault.Goals as goal

pub returns : goal.returns
returns g c = rw (← c.word.ensures) c.say_line.ensures
