use Rattle.std.proofs.Common.{◌≡◌, drop, map}
use Rattle.se_words.specs.Options.{group_view}
use Rattle.se_words.specs.Given.{first_positional}
use Rattle.se_words.proofs.given.first_positional.Given as goal

abbrev pub invariant-loop-group : goal.invariant-loop-group
invariant-loop-group l = first_positional (map group_view (drop l.group-index l.groups)) ≡ first_positional (map group_view l.groups)
