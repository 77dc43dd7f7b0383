use Rattle.std.proofs.Common.{rules, length, nat_lt, ◌∙◌}
use Rattle.std.proofs.lemmas.Iterator.Search.{all_from_yields_List}
use Rattle.std.proofs.lemmas.Iterator.Splits.{YieldsList-from_slice_split}
use Rattle.se_words.specs.Values.{is_comma, is_comma_list}
use Rattle.se_words.proofs.values.is_comma_list.Goals as goal

pub returns : goal.returns
unfolding is_comma_list
returns c =
    all_from_yields_List (λ element. nat_lt 0 (length element)) _ _ _ c.all.ensures.ran
    (YieldsList-from_slice_split _ is_comma c.args.text.now (c.split.ensures.rest ∙ c.as_bytes.ensures.value) c.split.ensures.done c.split.ensures.closure (λ x b q h. search rules)) (λ x b q h. search rules)
