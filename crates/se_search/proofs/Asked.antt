-- Which text is asked for.
use Rattle.std.proofs.Common.{◌≡◌, true, false, ap}
use Rattle.std.specs.Prelude.{if◌then◌else◌}
use Rattle.pol_file.specs.declared.Parts.{Parts}
use Rattle.se_options.specs.SearchRequest.{SearchAsks}
use Rattle.se_search.specs.SearchAnswer.{rules_text, search_text, singles_text}

pub singles-asked : (asks : SearchAsks) (policy : Parts) → asks.singles ≡ true → search_text asks policy ≡ singles_text asks policy
unfolding search_text
singles-asked asks policy e = ap (λ singles. if singles then singles_text asks policy else rules_text asks policy) e

pub rules-asked : (asks : SearchAsks) (policy : Parts) → asks.singles ≡ false → search_text asks policy ≡ rules_text asks policy
unfolding search_text
rules-asked asks policy e = ap (λ singles. if singles then singles_text asks policy else rules_text asks policy) e
