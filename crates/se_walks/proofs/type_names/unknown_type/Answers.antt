use Rattle.std.proofs.Common.{map}
use Rattle.std.specs.Prelude.{option_map}
use Rattle.se_words.specs.Options.{named_view}
use Rattle.se_walks.proofs.AskedTypes.{all_words}
use Rattle.se_walks.proofs.type_names.unknown_type.Goals as goal

pub returns : goal.returns
returns c =
    rw (c.least.ensures, c.least-found.ensures, c.unknown_word.ensures, c.unknown_target.ensures, c.unknown_among.ensures)
    (all_words c.args.policy.now (named_view c.args.source.now) (option_map named_view c.args.target.now) (map named_view c.args.excluded.now))
