-- Sets of the types that are asked for.
use Rattle.std.proofs.Common.{◌≡◌, ℕ, Bool, true, false, Option, Some, None, Result, Ok, Err, IfOk, List, [], ◌∷◌, refl, sym, ap, ◌∙◌}
use Rattle.std.specs.Prelude.{◌||◌, if◌then◌else◌}
use Rattle.std.specs.List.{filter}
use Rattle.pol_bitmap.specs.declared.Node.{Node}
use Rattle.pol_bitmap.specs.Nodes.{bits_of, has_bit}
use Rattle.pol_bitmap.specs.Sets.{IsSet, IsCommon}
use Rattle.pol_file.specs.declared.Parts.{Parts}
use Rattle.rule_criteria.specs.Modes.{is_direct}
use Rattle.rule_criteria.specs.declared.Criterion.{Criterion}
use Rattle.rule_query.specs.Ends.{meets_type}
use Rattle.rule_query.specs.Queries.{AreTypesOf}
use Rattle.rule_singles.specs.Inner.EndSets.{AreAsked, leaves, types_left}
use Rattle.rule_singles.proofs.SetCuts.{common_is_filter}

-- ---- what is left

listed_by : (direct meets : Bool) (set : List Node) (type : ℕ) → has_bit set type ≡ meets → leaves (if direct then None else Some set) type ≡ (direct || meets)
listed_by true meets set type e = refl
listed_by false meets set type e = e

pub left_is_asked : (policy : Parts) (o : Option Criterion) (met : Option (List Node)) → AreTypesOf policy o met → AreAsked policy o (types_left o met)
left_is_asked policy None met are = record { each = λ type declared. refl }
left_is_asked policy (Some criterion) None are = absurd are
left_is_asked policy (Some criterion) (Some set) are = record { each = λ type declared. listed_by (is_direct criterion.mode) (meets_type policy criterion type) set type (are type declared) }

-- ---- a set cut

pub cut_is : {E : Type 0} (given left : List Node) (o : Option (List Node)) (r : Result (List Node) E) → IsSet given → o ≡ Some left → IfOk r IsSet → IfOk r (λ set. IsCommon (bits_of given) (bits_of left) (bits_of set)) → IfOk r (λ set. bits_of set ≡ filter (leaves o) (bits_of given))
cut_is given left o (Err x) set e made is = tt
cut_is given left o (Ok common) set e made is = common_is_filter given left common set made is ∙ sym (ap (λ (l : Option (List Node)). filter (leaves l) (bits_of given)) e)

all_pass : (xs : List ℕ) → xs ≡ filter (λ x. true) xs
all_pass [] = refl
all_pass (x ∷ xs) = ap (λ (ys : List ℕ). x ∷ ys) (all_pass xs)

pub uncut_is : (xs : List ℕ) (o : Option (List Node)) → o ≡ None → xs ≡ filter (leaves o) xs
uncut_is xs o e = all_pass xs ∙ sym (ap (λ (l : Option (List Node)). filter (leaves l) xs) e)
