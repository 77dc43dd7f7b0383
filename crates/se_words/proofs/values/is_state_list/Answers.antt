use Rattle.std.proofs.Common.{lit<, rules}
use Rattle.std.proofs.lemmas.Iterator.Search.{all_from_yields_List}
use Rattle.std.proofs.lemmas.Iterator.Splits.{YieldsList-from_str_split}
use Rattle.se_words.specs.Values.{is_state, is_state_list}
use Rattle.se_words.proofs.values.is_state_list.Goals as goal

pub returns : goal.returns
unfolding is_state_list
returns c =
    all_from_yields_List is_state _ _ _ c.all.ensures.ran
    (YieldsList-from_str_split 44 c.args.text.now (lit< tt) c.split.ensures.text c.split.ensures.has_more c.split.ensures.pattern) (λ x b q h. search rules)
