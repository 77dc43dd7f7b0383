use Rattle.std.proofs.Common.{◌≡◌, Bool, drop, map}
use Rattle.se_status.specs.LeastWord.{least}
use Rattle.se_options.specs.InfoRequest.{wanted_view}
use Rattle.se_info.specs.InfoAnswer.{first_unknown}
use Rattle.se_info.proofs.unknown.first_unknown.Given as goal

abbrev pub invariant-loop-wanted : goal.invariant-loop-wanted
invariant-loop-wanted l =
    (expand : Bool) → least l.found (first_unknown l.policy expand (map wanted_view (drop l.wanted-index l.listings))) ≡ first_unknown l.policy expand (map wanted_view l.listings)
