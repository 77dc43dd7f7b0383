use Rattle.pol_bitmap.specs.Nodes.{bits_of}
use Rattle.text_rows.specs.TextLines.{fields_in}
use Rattle.se_checker.proofs.WantedTypes.{ends_wanted}
use Rattle.se_checker.proofs.assertions.wanted_ends.Goals as goal

pub returns : goal.returns
returns c = ends_wanted c.args.policy.now _ (fields_in c.args.exempt.now) (bits_of c.in_ok-wanted.wanted) c.ends_with.result c.in_ok-wanted.ensures c.ends_with.ensures
