-- The texts of listed rules, put together.
use Rattle.std.proofs.Common.{◌≡◌, ◌∙◌, ℕ, List, ◌++◌, Some, None, slice_get, sym, ap, append-nil, append_assoc}
use Rattle.pol_cursor.specs.References.{Placed}
use Rattle.pol_avtab.specs.declared.AvRec.{AvRec}
use Rattle.pol_file.specs.declared.Parts.{Parts}
use Rattle.pol_read.specs.StoredRules.{StoredRule, av_rule, ends_of, stored_rules}
use Rattle.pol_read.proofs.RuleSums.{table_first}
use Rattle.pol_symbols.specs.PolicySymbols.{name_in}
use Rattle.rule_text.specs.ConditionTexts.{condition_text}
use Rattle.rule_text.specs.RuleFrames.{given_text}
use Rattle.rule_text.specs.RuleTexts.{rest_text, rule_text, text_found, text_of_rule}
use Rattle.rule_listing.specs.Inner.KeptTexts.{begun_text, ended_text}

-- a rule that is added: its ends, what it gives with the end, and its condition
pub whole_added : (policy : Parts) (rule : StoredRule) (before : List ℕ)
    → before ++ begun_text policy.symbols (ends_of rule) ++ ended_text policy.symbols rule ++ condition_text (name_in policy.symbols) policy.rules.conditionals rule.condition ≡ before ++ rule_text policy rule
unfolding rule_text rest_text given_text
whole_added policy rule before =
    let begun = begun_text policy.symbols (ends_of rule) in
    let ended = ended_text policy.symbols rule in
    let under = condition_text (name_in policy.symbols) policy.rules.conditionals rule.condition in
    ap (λ (text : List ℕ). text ++ under) (append_assoc before begun ended) ∙ append_assoc before (begun ++ ended) under ∙ ap (λ (text : List ℕ). before ++ text) (append_assoc begun ended under)

-- one that stands under no condition
pub vector_added : (policy : Parts) (av : Placed AvRec) (before : List ℕ)
    → before ++ begun_text policy.symbols (ends_of (av_rule None av)) ++ ended_text policy.symbols (av_rule None av) ≡ before ++ rule_text policy (av_rule None av)
unfolding condition_text
vector_added policy av before =
    let rule = av_rule None av in
    sym (append-nil (before ++ begun_text policy.symbols (ends_of rule) ++ ended_text policy.symbols rule)) ∙ whole_added policy rule before

-- whose ends stand there, and what it gives behind them
pub ended_added : (policy told : Parts) (av : Placed AvRec) (before begun : List ℕ) → told ≡ policy → begun ≡ before ++ begun_text policy.symbols (ends_of (av_rule None av))
    → begun ++ ended_text told.symbols (av_rule None av) ≡ before ++ rule_text policy (av_rule None av)
ended_added policy told av before begun same was =
    let rule = av_rule None av in
    ap (λ (text : List ℕ). text ++ ended_text told.symbols rule) was ∙ ap (λ (p : Parts). before ++ begun_text policy.symbols (ends_of rule) ++ ended_text p.symbols rule) same
    ∙ vector_added policy av before

-- the text of the stored rule of a number
pub text_of_stored : (policy : Parts) (number : ℕ) (rule : StoredRule) → slice_get (stored_rules policy) number ≡ Some rule → rule_text policy rule ≡ text_of_rule policy number
unfolding text_of_rule
text_of_stored policy number rule there = sym (ap (text_found policy) there)

-- and of the access vector of a number
pub text_of_vector : (policy : Parts) (number : ℕ) (av : Placed AvRec) → slice_get policy.rules.table number ≡ Some av → rule_text policy (av_rule None av) ≡ text_of_rule policy number
text_of_vector policy number av there = text_of_stored policy number (av_rule None av) (table_first policy number av there)
