use Rattle.std.proofs.Common.{◌≡◌, take, map}
use Rattle.se_words.specs.Options.{group_view}
use Rattle.se_options.specs.MakeRequest.{counting}
use Rattle.se_options.proofs.make_options.counting_all.Given as goal

abbrev pub invariant-loop-group : goal.invariant-loop-group
invariant-loop-group l = map group_view l.counted.items ≡ map counting (map group_view (take l.group-index l.groups))
