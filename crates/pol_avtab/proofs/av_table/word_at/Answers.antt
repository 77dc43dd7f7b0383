use Rattle.std.proofs.Common.{◌≡◌, ◌∙◌, take, true, false, sym}
use Rattle.pol_avtab.specs.AvKeys.{key_of}
use Rattle.pol_avtab.specs.AvRecord.{is_extended}
use Rattle.pol_avtab.proofs.AvReading.{extended_unmarked}
use Rattle.pol_avtab.proofs.KeyWords.{rule_more, words_pushed}
use Rattle.pol_avtab.proofs.av_table.word_at.Goals as goal

pub returns-then-is_extended : goal.returns-then-is_extended
returns-then-is_extended c =
    let rules = c.args.table.now in
    let rule = c.view-rule.result in
    let kind : is_extended (key_of rule.value).specified ≡ true = extended_unmarked rule.value.specified ∙ sym (rw c.specified.ensures at c.if-is_extended.ensures) in
    rw (rule_more rules c.args.i rule c.view-rule.ensures) (words_pushed true (take c.args.i rules) rule kind)

pub returns-else-is_extended : goal.returns-else-is_extended
returns-else-is_extended c =
    let rules = c.args.table.now in
    let rule = c.view-rule.result in
    let kind : is_extended (key_of rule.value).specified ≡ false = extended_unmarked rule.value.specified ∙ sym (rw c.specified.ensures at c.if-is_extended.ensures) in
    rw (rule_more rules c.args.i rule c.view-rule.ensures, c.word.ensures) (words_pushed false (take c.args.i rules) rule kind)
