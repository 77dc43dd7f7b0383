use Rattle.std.proofs.Common.{◌≡◌, map, take}
use Rattle.se_words.specs.Options.{named_view}
use Rattle.se_walks.proofs.type_names.texts.Given as goal

abbrev pub invariant-loop-named : goal.invariant-loop-named
invariant-loop-named l = map (λ text. text.now) l.texts.items ≡ map (λ named. named.text) (map named_view (take l.named-index l.names))
