use Rattle.se_words.specs.Options.{named_view}
use Rattle.se_options.proofs.Parts.{same-dom}
use Rattle.se_options.proofs.dom_options.dom_asks.Goals as goal

pub returns : goal.returns
returns c =
    same-dom (named_view c.args.policy) (named_view c.args.source) c.given_value.ensures c.is_given.ensures c.all_in.ensures.most c.is_given-2.ensures c.in_ok-positionals.ensures c.in_ok-given_states.ensures c.from_in.ensures
    c.limit_in.ensures
