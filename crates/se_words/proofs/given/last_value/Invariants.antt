use Rattle.std.proofs.Common.{◌≡◌, take, map, option_map}
use Rattle.se_words.specs.Options.{group_view, named_view}
use Rattle.se_words.specs.Given.{last_value}
use Rattle.se_words.proofs.given.last_value.Given as goal

abbrev pub invariant-loop-group : goal.invariant-loop-group
invariant-loop-group l = option_map (option_map named_view) l.last ≡ last_value l.option (map group_view (take l.group-index l.groups))
