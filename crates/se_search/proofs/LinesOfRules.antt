-- The lines of rules that were looked at are those of their numbers.
use Rattle.std.proofs.Common.{◌≡◌, ◌∙◌, ℕ, suc, ◌<◌, Bool, true, false, List, [], ◌∷◌, ◌++◌, length, map, ap, arith, subst, sym}
use Rattle.pol_file.specs.declared.Parts.{Parts}
use Rattle.rule_listing.specs.declared.listed_rule.ListedRule.{ListedRule}
use Rattle.pol_read.specs.StoredRules.{stored_rules}
use Rattle.rule_listing.specs.ReadRules.{IsOfFirst, PassesNumber}
use Rattle.se_items.specs.Pieces.{PushesPiece}
use Rattle.std.specs.List.{concat}
use Rattle.se_search.specs.SearchAnswer.{rule_line}

-- a line that is added is a piece of their text
pub line-pushed : (policy : Parts) (rule : ListedRule) (old new : List ℕ) (had has : List ℕ) (more : Bool) → IsOfFirst policy old rule → PassesNumber old new more → has ≡ had ++ rule_line policy rule.number
    → PushesPiece (record { text = concat (map (rule_line policy) old); pieces = length old }) (record { text = concat (map (rule_line policy) new); pieces = length new }) had has more
line-pushed policy rule [] new had has more first passes is = absurd first
line-pushed policy rule (number ∷ numbers) new had has true first passes is =
    let e : number ∷ numbers ≡ passes.0 ∷ new = passes.1 in
    let same : rule.number ≡ passes.0 = cc (e, first.0) in
    let long : length (number ∷ numbers) ≡ suc (length new) = ap length e in
    record {
      piece = rule_line policy passes.0;
      left = ap (λ ns. concat (map (rule_line policy) ns)) e;
      added = is ∙ ap (λ (n : ℕ). had ++ rule_line policy n) same;
      nearer = omega (arith, long);
    }
line-pushed policy rule (number ∷ numbers) new had has false first passes is = absurd (cc passes.0)

-- the first of those that are left is the number of a stored rule
pub first_stored : (policy : Parts) (numbers : List ℕ) (rule : ListedRule) → IsOfFirst policy numbers rule → rule.number < length (stored_rules policy)
first_stored policy [] rule first = absurd first
first_stored policy (number ∷ numbers) rule first = subst (λ (n : ℕ). n < length (stored_rules policy)) (sym first.0) first.1
