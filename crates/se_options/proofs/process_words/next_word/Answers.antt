use Rattle.std.proofs.Common.{◌+◌, None, Some}
use Rattle.std.proofs.lemmas.List.{take_rest}
use Rattle.se_options.proofs.Ended.{found}
use Rattle.se_options.proofs.process_words.next_word.Goals as goal

pub returns-in-None-clause-parts : goal.returns-in-None-clause-parts
returns-in-None-clause-parts c = found c.args.bytes.now None c.in-None.ensures.index

pub returns-in-Some-clause-parts : goal.returns-in-Some-clause-parts
returns-in-Some-clause-parts c = rw (take_rest c.args.bytes.now (c.in-Some.end + 1)) (found c.args.bytes.now (Some c.in-Some.end) c.in-Some.ensures.index)
