-- How many rules between single types there are.
use Rattle.std.proofs.Common.{◌≡◌, ◌∙◌, ◌≤◌, Some, slice_get, ℕ, ◌+◌, ◌*◌, List, [], ◌∷◌, length, map, take, refl, sym, ap, arith, length-append, mul-le-mul}
use Rattle.std.specs.List.{flat_map, enumerate_from, filter, range_with_len, sum_by}
use Rattle.std.specs.Prelude.{Bool, true, false, ◌&&◌, ◌-◌, if◌then◌else◌}
use Rattle.std.proofs.lemmas.List.{take_all}
use Rattle.std.proofs.lemmas.List.FromFn.{length-range_with_len}
use Rattle.std.proofs.lemmas.List.Sums.{count_by-le-length, length-filter, sum_by-cons}
use Rattle.info_summary.proofs.Counting.{so_many_more}
use Rattle.pol_bitmap.specs.Nodes.{has_bit}
use Rattle.pol_fields.specs.declared.TableKind.{TableKind}
use Rattle.pol_fields.specs.declared.TableKind.TheVariants as tables
use Rattle.pol_datums.specs.declared.Flavour.TheVariants.{Plain, Attribute}
use Rattle.pol_expand.specs.Expansion.{expansion}
use Rattle.pol_expand.specs.PolicyMap.{expand, has_flavour, row_in}
use Rattle.pol_file.specs.declared.Parts.{Parts}
use Rattle.set_products.specs.declared.Single.{Single}
use Rattle.set_products.proofs.Products.{length_members_of}
use Rattle.pol_read.specs.StoredRules.{StoredRule, stored_rules}
use Rattle.se_make.specs.Singles.{expansions_of, pairs_of, singles_of, types_of_end}

-- the rules between single types of a rule, by its number and what its ends stand for
abbrev of_rule : ℕ × (List ℕ × List ℕ) → List Single
of_rule r = flat_map (λ s. map (λ t. record { rule = r.0; source = s; target = t }) r.1.1) r.1.0

counted : (policy : Parts) (from : ℕ) (rules : List StoredRule) → length (flat_map of_rule (enumerate_from from (map (expansions_of policy) rules))) ≡ sum_by (pairs_of policy) rules
counted policy from [] = refl
counted policy from (rule ∷ rules) =
    let ends : List ℕ × List ℕ = expansions_of policy rule in
    let others = flat_map of_rule (enumerate_from (from + 1) (map (expansions_of policy) rules)) in
    let here : length (of_rule (from, ends)) ≡ pairs_of policy rule = length_members_of (record { rule = from; sources = ends.0; targets = ends.1 }) in
    length-append (of_rule (from, ends)) others ∙ ap (λ (n : ℕ). n + length others) here ∙ ap (λ (n : ℕ). pairs_of policy rule + n) (counted policy (from + 1) rules)
    ∙ sym (sum_by-cons (pairs_of policy) rule rules)

-- one rule more
pub counted_more : (policy : Parts) (count more n : ℕ) (rule : StoredRule) → slice_get (stored_rules policy) n ≡ Some rule → count ≡ sum_by (pairs_of policy) (take n (stored_rules policy)) → more ≡ pairs_of policy rule
    → count + more ≡ sum_by (pairs_of policy) (take (n + 1) (stored_rules policy))
counted_more policy count more n rule at is so_many =
    let before = sum_by (pairs_of policy) (take n (stored_rules policy)) in
    ap (λ (k : ℕ). k + more) is ∙ ap (λ (k : ℕ). before + k) so_many ∙ sym (so_many_more (pairs_of policy) (stored_rules policy) n rule at)

-- all rules were gone through
pub all_counted : (policy : Parts) (count n : ℕ) → length (stored_rules policy) ≤ n → count ≡ sum_by (pairs_of policy) (take n (stored_rules policy)) → count ≡ length (singles_of policy)
unfolding singles_of
all_counted policy count n le is = is ∙ ap (sum_by (pairs_of policy)) (take_all n (stored_rules policy) le) ∙ sym (counted policy 0 (stored_rules policy))

-- ---- ends

-- an end that is no type stands for itself
pub other_end : (policy : Parts) (table : TableKind) (value : ℕ) → (table ≡ tables.Types → ⊥) → 1 ≡ length (types_of_end policy table value)
other_end policy tables.Types value not = absurd (not refl)
other_end policy tables.Commons value not = refl
other_end policy tables.Classes value not = refl
other_end policy tables.Roles value not = refl
other_end policy tables.Users value not = refl
other_end policy tables.Booleans value not = refl
other_end policy tables.Levels value not = refl
other_end policy tables.Categories value not = refl

pub product_few : (a b : ℕ) → a ≤ 65535 → b ≤ 65535 → a * b ≤ 4294836225
product_few a b few small = mul-le-mul few small

-- A value expands to no more types than there are values.
pub expansion_few : (policy : Parts) (value count : ℕ) → count ≡ policy.symbols.types.nprim → count ≤ 65535 → length (expand policy value) ≤ 65535
unfolding expand expansion
expansion_few policy value count is few = by (has_flavour policy.symbols Attribute value)
  where
    by : (attribute : Bool) → length (if attribute then filter (λ type. has_flavour policy.symbols Plain type && has_bit (row_in policy type) (value - 1)) (range_with_len 1 policy.symbols.types.nprim) else value ∷ []) ≤ 65535
    by true =
        let p : ℕ → Bool = λ type. has_flavour policy.symbols Plain type && has_bit (row_in policy type) (value - 1) in
        omega (arith, length-filter p (range_with_len 1 policy.symbols.types.nprim), count_by-le-length p (range_with_len 1 policy.symbols.types.nprim), length-range_with_len 1 policy.symbols.types.nprim, is, few)
    by false = omega arith
