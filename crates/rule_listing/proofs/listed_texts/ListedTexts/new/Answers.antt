use Rattle.rule_listing.proofs.listed_texts.ListedTexts.new.Goals as goal

pub invariant_of-result : goal.invariant_of-result
invariant_of-result c = c.none-2.ensures _
