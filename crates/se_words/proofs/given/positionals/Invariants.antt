use Rattle.std.proofs.Common.{◌≡◌, take, map}
use Rattle.se_words.specs.Options.{group_view, named_view}
use Rattle.se_words.specs.Given.{positionals}
use Rattle.se_words.proofs.given.positionals.Given as goal

abbrev pub invariant-loop-group : goal.invariant-loop-group
invariant-loop-group l = map named_view l.names.items ≡ positionals (map group_view (take l.group-index l.groups))
