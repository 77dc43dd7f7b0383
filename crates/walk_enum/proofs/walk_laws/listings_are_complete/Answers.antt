use Rattle.walk_enum.proofs.Listing.{listed_all}
use Rattle.walk_enum.proofs.walk_laws.listings_are_complete.Goals as goal

pub returns : goal.returns
returns c all seen h = listed_all all seen h
