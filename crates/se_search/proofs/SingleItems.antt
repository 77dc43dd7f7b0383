-- The rules between single types that are listed, and the lines of those that are asked for.
use Rattle.std.proofs.Common.{◌≡◌, ◌∙◌, ◌<◌, ℕ, List, [], ◌∷◌, Option, Some, None, length, map, refl, ap, arith}
use Rattle.std.specs.Prelude.{slice_get}
use Rattle.std.specs.List.{concat}
use Rattle.std.proofs.lemmas.List.Elements.{All-cons, All-head, All-nil, All-tail}
use Rattle.pol_file.specs.declared.Parts.{Parts}
use Rattle.set_products.specs.Members.{Product, members}
use Rattle.pol_read.specs.StoredRules.{StoredRule, stored_rules}
use Rattle.rule_criteria.specs.declared.Criteria.{Criteria}
use Rattle.rule_order.specs.ListedOrder.{AreRules}
use Rattle.rule_singles.specs.FoundSingles.{ends_found, ends_of_rule}
use Rattle.se_items.specs.Paging.{page}
use Rattle.se_options.specs.SearchRequest.{SearchAsks}
use Rattle.se_search.specs.SearchAnswer.{found_rules, single_line, singles_text}
use Rattle.se_search.specs.Inner.SingleLines.{AreOfRules}

rule_is : (policy : Parts) (criteria : Criteria) (number : ℕ) (o : Option StoredRule) → (ends_found policy criteria number o).rule ≡ number
rule_is policy criteria number None = refl
rule_is policy criteria number (Some rule) = refl

-- what is listed of rules is of rules
pub listed_are_of_rules : (policy : Parts) (criteria : Criteria) (numbers : List ℕ) → AreRules policy numbers → AreOfRules policy (map (ends_of_rule policy criteria) numbers)
unfolding ends_of_rule
listed_are_of_rules policy criteria [] h = All-nil (λ (p : Product). p.rule < length (stored_rules policy))
listed_are_of_rules policy criteria (n ∷ ns) h =
    let small : n < length (stored_rules policy) = All-head (λ (n : ℕ). n < length (stored_rules policy)) n ns h in
    let same = rule_is policy criteria n (slice_get (stored_rules policy) n) in
    All-cons (λ (p : Product). p.rule < length (stored_rules policy)) (ends_of_rule policy criteria n) (map (ends_of_rule policy criteria) ns)
    (omega (arith, small, same)) (listed_are_of_rules policy criteria ns (All-tail (λ (n : ℕ). n < length (stored_rules policy)) n ns h))

-- the lines that are asked for
pub singles-found : (asks : SearchAsks) (policy : Parts) (lines : List (List ℕ)) (ps : List Product) (numbers : List ℕ) → lines ≡ page asks.from asks.limit (map (single_line policy) (members ps))
    → ps ≡ map (ends_of_rule policy asks.criteria) numbers → numbers ≡ found_rules asks policy → concat lines ≡ singles_text asks policy
unfolding singles_text
singles-found asks policy lines ps numbers is are e =
    ap (λ ys. concat ys) (is ∙ ap (λ ps. page asks.from asks.limit (map (single_line policy) (members ps))) (are ∙ ap (map (ends_of_rule policy asks.criteria)) e))
