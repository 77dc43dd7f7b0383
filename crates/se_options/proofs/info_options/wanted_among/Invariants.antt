use Rattle.std.proofs.Common.{◌≡◌, take, map}
use Rattle.std.specs.List.{flat_map}
use Rattle.se_words.specs.Options.{group_view}
use Rattle.se_options.specs.InfoRequest.{wanted_in, wanted_view}
use Rattle.se_options.proofs.info_options.wanted_among.Given as goal

abbrev pub invariant-loop-listing : goal.invariant-loop-listing
invariant-loop-listing l =
    map wanted_view l.listings.items ≡ flat_map (wanted_in l.all (map group_view l.groups)) (take l.listing-index l.among)
