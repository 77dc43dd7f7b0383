use Rattle.std.proofs.Common.{refl}
use Rattle.se_options.proofs.Parts.{first-rest}
use Rattle.se_options.proofs.search_criteria.kinds_in.Goals as goal

pub returns : goal.returns
returns c =
    first-rest c.asks_for_allow.ensures (first-rest c.is_given.ensures (first-rest c.is_given-2.ensures (first-rest c.asks_for_allow-2.ensures (
    first-rest c.is_given-3.ensures (first-rest c.is_given-4.ensures (first-rest c.is_given-5.ensures (first-rest c.is_given-6.ensures (
    first-rest c.is_given-7.ensures (first-rest c.is_given-8.ensures (first-rest c.is_given-9.ensures (first-rest c.is_given-10.ensures (refl))))))))))))
