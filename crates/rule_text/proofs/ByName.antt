-- Permissions in the order of their names show each mask as a set in that order.
use Rattle.std.proofs.Common.{◌≡◌, ℕ, ◌+◌, Bool, true, false, cond, List, [], ◌∷◌, map, refl, sym, ap, ◌∙◌, arith}
use Rattle.std.specs.List.{filter, count_by, sum_by}
use Rattle.std.specs.List.Sorted.{IsPermutation, IsSortedBy}
use Rattle.std.specs.Str.{bytes_eq}
use Rattle.std.proofs.lemmas.Cmp.{nat_list_cmp_total}
use Rattle.std.proofs.lemmas.List.Kept.{IsSortedBy-filter}
use Rattle.std.proofs.lemmas.List.MinMax.{ranks_by}
use Rattle.std.proofs.lemmas.List.Sorted.{sum_by-IsPermutation}
use Rattle.std.proofs.lemmas.List.Sums.{sum_by-cons}
use Rattle.pol_symtab.specs.SymbolTables.{is_below}
use Rattle.pol_symtab.proofs.Ranks.{count-cons}
use Rattle.pol_commons.specs.declared.PermissionRec.{PermissionRec}
use Rattle.pol_commons.specs.Permissions.{has_permission}
use Rattle.pol_texts.specs.NameLists.{in_order}
use Rattle.pol_texts.specs.SetTexts.{set_text}
use Rattle.pol_texts.proofs.OrderedNames.{sorted_map}
use Rattle.pol_texts.proofs.RisingNames.{in_order_rises, in_order_counts, settled, sorted_rises}
use Rattle.info_lines.specs.PermissionSets.{permissions_text}
use Rattle.rule_text.specs.Inner.ClassPermissions.{shown_text, AreByName}

abbrev name_of : PermissionRec → List ℕ
name_of permission = permission.name

counted_if : (name : List ℕ) (p : PermissionRec) (ps : List PermissionRec) (b : Bool)
    → count_by (bytes_eq name) (map name_of (cond b (p ∷ ps) ps)) ≡ cond b (cond (bytes_eq name (name_of p)) 1 0) 0 + count_by (bytes_eq name) (map name_of ps)
counted_if name p ps true = count-cons (bytes_eq name) (name_of p) (map name_of ps)
counted_if name p ps false = omega arith

-- how often a name comes among those whose bits are set
shown_counts : (mask : ℕ) (name : List ℕ) (permissions : List PermissionRec)
    → count_by (bytes_eq name) (map name_of (filter (has_permission mask) permissions)) ≡ sum_by (λ p. cond (has_permission mask p) (cond (bytes_eq name (name_of p)) 1 0) 0) permissions
shown_counts mask name [] = refl
shown_counts mask name (p ∷ ps) =
    counted_if name p (filter (has_permission mask) ps) (has_permission mask p) ∙ ap (λ (n : ℕ). cond (has_permission mask p) (cond (bytes_eq name (name_of p)) 1 0) 0 + n) (shown_counts mask name ps)
    ∙ sym (sum_by-cons (λ (q : PermissionRec). cond (has_permission mask q) (cond (bytes_eq name (name_of q)) 1 0) 0) p ps)

pub by_name : (permissions sorted : List PermissionRec) → IsPermutation permissions sorted → IsSortedBy (λ p q. is_below p.name q.name) sorted → AreByName permissions sorted
unfolding shown_text permissions_text
by_name permissions sorted same rise mask =
    ap set_text (settled (map name_of (filter (has_permission mask) sorted)) (in_order (map name_of (filter (has_permission mask) permissions)))
    (sorted_rises (map name_of (filter (has_permission mask) sorted)) (sorted_map name_of is_below (filter (has_permission mask) sorted)
    (IsSortedBy-filter (λ p q. is_below p.name q.name) (ranks_by nat_list_cmp_total name_of) (has_permission mask) sorted rise)))
    (in_order_rises (map name_of (filter (has_permission mask) permissions)))
    (λ name. shown_counts mask name sorted ∙ sum_by-IsPermutation (λ p. cond (has_permission mask p) (cond (bytes_eq name (name_of p)) 1 0) 0) permissions sorted same
    ∙ sym (shown_counts mask name permissions) ∙ sym (in_order_counts (bytes_eq name) (map name_of (filter (has_permission mask) permissions)))))
