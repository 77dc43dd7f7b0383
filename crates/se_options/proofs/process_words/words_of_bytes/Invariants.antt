use Rattle.std.proofs.Common.{length}
use Rattle.se_options.proofs.Ended.{Left}
use Rattle.se_options.proofs.process_words.words_of_bytes.Given as goal

abbrev pub invariant-words : goal.invariant-words
invariant-words l = Left l.bytes l.words l.rest

abbrev pub decreases-words : goal.decreases-words
decreases-words l = length l.rest
