-- The rules that are found, and their lines.
use Rattle.std.proofs.Common.{◌≡◌, ◌∙◌, ◌≤◌, ◌<◌, ℕ, zero, suc, List, [], ◌∷◌, Option, None, Some, length, map, take, drop, refl, sym, ap, arith, subst}
use Rattle.std.specs.List.{All, concat, range_with_len}
use Rattle.std.proofs.lemmas.List.Elements.{All-filter, All-cons}
use Rattle.pol_file.specs.declared.Parts.{Parts}
use Rattle.pol_read.specs.StoredRules.{stored_rules}
use Rattle.rule_order.specs.ListedOrder.{AreRules, in_rule_order}
use Rattle.rule_query.specs.Meeting.{meeting, meets}
use Rattle.rule_criteria.specs.declared.Criteria.{Criteria}
use Rattle.std.proofs.lemmas.List.{take-take}
use Rattle.se_items.specs.Paging.{end_of, most_items, page}
use Rattle.se_items.proofs.Pages.{page-end, page-map}
use Rattle.se_options.specs.SearchRequest.{SearchAsks}
use Rattle.se_search.specs.SearchAnswer.{found_rules, rule_line, rules_text}
use Rattle.std.proofs.lemmas.List.Elements.{All-head, All-nil, All-tail}
use Rattle.rule_order.proofs.OrderedRules.{all-rules, ordered-rules}
use Rattle.rule_query.proofs.FoundRules.{found_are_few}

All-taken : {A : Type 0} (P : A → Type 0) (k : ℕ) (xs : List A) → All P xs → All P (take k xs)
All-taken P zero xs h = All-nil P
All-taken P (suc k) [] h = All-nil P
All-taken P (suc k) (x ∷ xs) h = All-cons P x (take k xs) (All-head P x xs h) (All-taken P k xs (All-tail P x xs h))

-- each is the number of a rule
pub found-are-rules : (policy : Parts) (criteria : Criteria) (numbers : List ℕ) → numbers ≡ in_rule_order policy (meeting policy criteria) → AreRules policy numbers
found-are-rules policy criteria numbers is =
    let P : ℕ → Type 0 = λ number. number < length (stored_rules policy) in
    let met : AreRules policy (meeting policy criteria) = All-filter (meets policy criteria) P (range_with_len 0 (length (stored_rules policy))) (all-rules policy) in
    subst (All P) (sym is) (ordered-rules policy (meeting policy criteria) met)

All-dropped : {A : Type 0} (P : A → Type 0) (k : ℕ) (xs : List A) → All P xs → All P (drop k xs)
All-dropped P zero xs h = h
All-dropped P (suc k) [] h = All-nil P
All-dropped P (suc k) (x ∷ xs) h = All-dropped P k xs (All-tail P x xs h)

All-page : {A : Type 0} (P : A → Type 0) (from : ℕ) (limit : Option ℕ) (xs : List A) → All P xs → All P (page from limit xs)
unfolding page
All-page P from None xs h = All-dropped P from (take most_items xs) (All-taken P most_items xs h)
All-page P from (Some count) xs h = All-taken P count (drop from (take most_items xs)) (All-dropped P from (take most_items xs) (All-taken P most_items xs h))

-- also of those that are asked for
pub page-are-rules : (policy : Parts) (criteria : Criteria) (from : ℕ) (limit : Option ℕ) (numbers : List ℕ) → numbers ≡ page from limit (in_rule_order policy (meeting policy criteria)) → AreRules policy numbers
page-are-rules policy criteria from limit numbers is =
    let P : ℕ → Type 0 = λ number. number < length (stored_rules policy) in
    subst (All P) (sym is) (All-page P from limit (in_rule_order policy (meeting policy criteria)) (found-are-rules policy criteria (in_rule_order policy (meeting policy criteria)) refl))

-- no more are found than there are
pub few-found : (policy : Parts) (criteria : Criteria) (numbers : List ℕ) → numbers ≡ in_rule_order policy (meeting policy criteria) → length numbers ≤ length (stored_rules policy)
few-found policy criteria numbers is = rw is (found_are_few policy criteria)

-- the lines that are asked for
pub text-found : (asks : SearchAsks) (policy : Parts) (lines : List (List ℕ)) (numbers : List ℕ) → lines ≡ map (rule_line policy) numbers → numbers ≡ page asks.from asks.limit (found_rules asks policy)
    → concat lines ≡ rules_text asks policy
unfolding rules_text
text-found asks policy lines numbers is are =
    ap concat (is ∙ ap (map (rule_line policy)) are ∙ sym (page-map (rule_line policy) asks.from asks.limit (found_rules asks policy)))

-- what is asked for stands among the first of all, up to where that part ends
pub page-first : (from : ℕ) (limit : Option ℕ) (numbers : List ℕ) → page from limit (take (end_of from limit) numbers) ≡ page from limit numbers
page-first from limit numbers =
    page-end from limit (take (end_of from limit) numbers) ∙ ap (drop from) (take-take (end_of from limit) (end_of from limit) numbers (omega arith)) ∙ sym (page-end from limit numbers)

-- the numbers that are asked for, where only the first are found
pub found-page : (asks : SearchAsks) (policy : Parts) (all part : List ℕ) (end : ℕ) → part ≡ page asks.from asks.limit all → all ≡ take end (found_rules asks policy) → end ≡ end_of asks.from asks.limit
    → part ≡ page asks.from asks.limit (found_rules asks policy)
found-page asks policy all part end is first at =
    is ∙ ap (page asks.from asks.limit) (first ∙ ap (λ n. take n (found_rules asks policy)) at) ∙ page-first asks.from asks.limit (found_rules asks policy)
