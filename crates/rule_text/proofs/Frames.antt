-- A rule's line with its ends left open is its line between any two.
use Rattle.std.proofs.Common.{◌≡◌, ℕ, Some, List, [], ◌++◌, slice_get, refl, append_assoc}
use Rattle.std.specs.Prelude.{codes}
use Rattle.pol_cursor.specs.References.{name_of}
use Rattle.pol_symbols.specs.PolicySymbols.{name_in}
use Rattle.pol_symbols.specs.declared.Symbols.{Symbols}
use Rattle.pol_file.specs.declared.Parts.{Parts}
use Rattle.pol_read.specs.RuleKinds.{source_table, target_table}
use Rattle.pol_read.specs.StoredRules.{StoredRule, stored_rules}
use Rattle.rule_text.specs.RuleFrames.{head_text}
use Rattle.rule_text.specs.RuleTexts.{keyword, ends_text, rest_text, rule_text, single_text}

joined : (word space source target rest end : List ℕ) → word ++ space ++ source ++ space ++ target ++ (rest ++ end) ≡ word ++ space ++ (source ++ space ++ target) ++ rest ++ end
joined word space source target rest end = simp append_assoc refl

text_is : (policy : Parts) (n : ℕ) (rule : StoredRule) (source target : ℕ) → slice_get (stored_rules policy) n ≡ Some rule
    → keyword rule.kind ++ codes " " ++ ends_text policy.symbols rule.kind source target ++ rest_text policy rule ≡ single_text policy n source target
unfolding single_text rule_text rest_text
text_is policy n rule source target is = rw is refl

pub framed : (policy : Parts) (n : ℕ) (rule : StoredRule) (symbols : Symbols) (empty rest line : List ℕ) (source target : ℕ)
    → slice_get (stored_rules policy) n ≡ Some rule → symbols ≡ policy.symbols → empty ≡ [] → rest ≡ empty ++ rest_text policy rule → line ≡ rest ++ codes "\n"
    → head_text symbols rule.kind source ++ name_of (name_in symbols) (target_table rule.kind) target ++ line ≡ single_text policy n source target ++ codes "\n"
unfolding head_text ends_text
framed policy n rule symbols empty rest line source target is same none e end =
    rw (← text_is policy n rule source target is, end, e, none, same) (joined (keyword rule.kind) (codes " ") (name_of (name_in policy.symbols) (source_table rule.kind) source)
    (name_of (name_in policy.symbols) (target_table rule.kind) target) (rest_text policy rule) (codes "\n"))
