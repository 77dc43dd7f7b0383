use Rattle.pol_expand.proofs.Listing.{expanded_at}
use Rattle.pol_expand.proofs.laws.expansions_stand_by_value.Goals as goal

pub returns : goal.returns
returns c = expanded_at
