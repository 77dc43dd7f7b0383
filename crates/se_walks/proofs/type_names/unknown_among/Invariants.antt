use Rattle.std.proofs.Common.{◌≡◌, drop, map}
use Rattle.se_words.specs.Options.{named_view}
use Rattle.se_status.specs.LeastWord.{least}
use Rattle.se_walks.specs.TypeNames.{first_unknown}
use Rattle.se_walks.proofs.type_names.unknown_among.Given as goal

abbrev pub invariant-loop-named : goal.invariant-loop-named
invariant-loop-named l = least l.found (first_unknown l.policy (map named_view (drop l.named-index l.names))) ≡ first_unknown l.policy (map named_view l.names)
