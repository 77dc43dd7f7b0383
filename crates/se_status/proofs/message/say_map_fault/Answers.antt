use Rattle.se_status.proofs.message.say_map_fault.Goals as goal

pub returns : goal.returns
returns g c = rw (← c.word.ensures) c.say_line.ensures
