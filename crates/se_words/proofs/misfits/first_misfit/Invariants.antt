use Rattle.std.proofs.Common.{◌≡◌, drop, map}
use Rattle.se_words.specs.Options.{group_view}
use Rattle.se_words.specs.Misfits.{misfit_among}
use Rattle.se_words.proofs.misfits.first_misfit.Given as goal

abbrev pub invariant-loop-group : goal.invariant-loop-group
invariant-loop-group l =
    misfit_among (map group_view l.groups) (map group_view (drop l.group-index l.groups)) ≡ misfit_among (map group_view l.groups) (map group_view l.groups)
