use Rattle.se_words.proofs.Texts.{text-of, text-none}
use Rattle.se_words.proofs.words.Words.push_bytes.Goals as goal

pub returns-in-Ok-clause-ok : goal.returns-in-Ok-clause-ok
returns-in-Ok-clause-ok c = rw (text-of c.args.word.now c.in-Ok.ensures.cases.1, ← c.in-Ok.ensures.cases.0) c.push.ensures.ok

pub returns-in-Err-clause-ok : goal.returns-in-Err-clause-ok
returns-in-Err-clause-ok c = rw (text-none c.args.word.now c.in-Err.ensures.cases.0) c.push_not_text.ensures.ok
