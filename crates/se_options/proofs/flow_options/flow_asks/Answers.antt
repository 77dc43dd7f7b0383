use Rattle.se_words.specs.Options.{named_view}
use Rattle.se_options.proofs.Parts.{same-flow}
use Rattle.se_options.proofs.flow_options.flow_asks.Goals as goal

pub returns : goal.returns
returns c =
    same-flow (named_view c.args.policy) (named_view c.args.map_file) (named_view c.args.source) c.given_value.ensures c.is_given.ensures c.all_in.ensures.most c.least_in.ensures.weight
    c.is_given-2.ensures c.in_ok-positionals.ensures c.in_ok-given_states.ensures c.from_in.ensures c.limit_in.ensures
