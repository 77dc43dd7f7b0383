-- Pools that gain sets, and the numbers of sets in them.
use Rattle.std.proofs.Common.{◌≡◌, inl, inr, ℕ, ◌+◌, ◌<◌, ◌≤◌, List, [], ◌∷◌, ◌++◌, Option, Some, None, Result, Ok, Err, IfOk, length, refl, sym, ap, subst, ◌∙◌, arith, append_assoc, append-nil, length-append}
use Rattle.std.specs.Prelude.{OnErr, slice_index_or}
use Rattle.std.specs.List.{filter}
use Rattle.std.proofs.Math.Seq.{get_or-append_seam}
use Rattle.std.proofs.lemmas.Bool.{cases_eq}
use Rattle.std.proofs.lemmas.List.{get_or_append_left}
use Rattle.std.proofs.lemmas.Option.{get_or_from_slice_get}
use Rattle.pol_fields.specs.declared.TableKind.{TableKind}
use Rattle.pol_fields.specs.declared.TableKind.TheVariants as tables
use Rattle.pol_bitmap.specs.declared.Node.{Node}
use Rattle.pol_bitmap.specs.Nodes.{bits_of}
use Rattle.pol_bitmap.specs.Kept.{IsNumberOf}
use Rattle.pol_file.specs.declared.Parts.{Parts}
use Rattle.pol_expand.specs.PolicyMap.{expand}
use Rattle.set_products.specs.Members.{bits_at}
use Rattle.rule_singles.specs.Inner.EndSets.{AreSetsOf, Grows, IsNumberIn, ends_left, leaves}

-- ---- pools

pub grows_same : (most : ℕ) (old new : List (List Node)) → new ≡ old → Grows most old new
grows_same most old new e = record { more = []; is = e ∙ sym (append-nil old); few = omega arith }

pub grows_then : (m n : ℕ) (a b c : List (List Node)) → Grows m a b → Grows n b c → Grows (m + n) a c
grows_then m n a b c g h = record {
  more = g.more ++ h.more;
  is = h.is ∙ ap (λ (l : List (List Node)). l ++ h.more) g.is ∙ append_assoc a g.more h.more;
  few = omega (arith, length-append g.more h.more, g.few, h.few);
}

pub grows_less : (m n : ℕ) (old new : List (List Node)) → m ≤ n → Grows m old new → Grows n old new
grows_less m n old new le g = record { more = g.more; is = g.is; few = omega (arith, le, g.few) }

-- how long it is then
pub longer : (most : ℕ) (old new : List (List Node)) → Grows most old new → (length old ≤ length new) × (length new ≤ length old + most)
longer most old new g = let long = length-append old g.more in let same = ap length g.is in (omega (arith, long, same), omega (arith, long, same, g.few))

pub bits_stay : (most : ℕ) (old new : List (List Node)) (n : ℕ) → Grows most old new → n < length old → bits_at new n ≡ bits_at old n
bits_stay most old new n g lt = ap (λ (l : List (List Node)). bits_at l n) g.is ∙ ap bits_of (get_or_append_left old g.more [] n lt)

pub number_stays : (most : ℕ) (old new : List (List Node)) (bits : List ℕ) (n : ℕ) → Grows most old new → IsNumberIn old bits n → IsNumberIn new bits n
number_stays most old new bits n g h = record { there = let le = longer most old new g in omega (arith, le.0, h.there); right = bits_stay most old new n g h.there ∙ h.right }

-- ---- the number of a set that is put

one_added : (old new : List (List Node)) (set : List Node) (n : ℕ) → IsNumberOf old new set n → Grows 1 old new
one_added old new set n (inl found) = grows_same 1 old new found.1
one_added old new set n (inr added) = record { more = set ∷ []; is = added.1; few = omega arith }

number_is : (old new : List (List Node)) (set : List Node) (n : ℕ) → IsNumberOf old new set n → IsNumberIn new (bits_of set) n
number_is old new set n (inl found) = rw (found.1) (record { there = found.0; right = ap bits_of (get_or_from_slice_get old n set [] found.2) })
number_is old new set n (inr added) = rw (added.1, added.0) (record { there = omega (arith, length-append old (set ∷ [])); right = ap bits_of (get_or-append_seam old set [] []) })

module _ {E : Type 0} (old new : List (List Node)) (set : List Node) where
  pub put_grows : (r : Result ℕ E) → IfOk r (IsNumberOf old new set) → OnErr r (new ≡ old) → Grows 1 old new
  put_grows (Ok n) number same = one_added old new set n number
  put_grows (Err e) number same = grows_same 1 old new same

  pub put_number : (r : Result ℕ E) → IfOk r (IsNumberOf old new set) → IfOk r (IsNumberIn new (bits_of set))
  put_number (Ok n) number = number_is old new set n number
  put_number (Err e) number = tt

-- ---- the numbers by value

pub sets_stay : (most : ℕ) (policy : Parts) (left : Option (List Node)) (old new : List (List Node)) (numbers : List (Option ℕ)) → Grows most old new → AreSetsOf policy left old numbers → AreSetsOf policy left new numbers
sets_stay most policy left old new numbers g h = record { each = λ value n e. number_stays most old new (filter (leaves left) (expand policy value)) n g (h.each value n e) }

none_some : {P : Type 0} (o : Option ℕ) (n : ℕ) → o ≡ None → o ≡ Some n → P
none_some o n e f = absurd cc

-- none is known at first
pub sets_none : (policy : Parts) (left : Option (List Node)) (sets : List (List Node)) (numbers : List (Option ℕ)) → ((value : ℕ) → slice_index_or numbers value None ≡ None) → AreSetsOf policy left sets numbers
sets_none policy left sets numbers h = record { each = λ value n e. none_some (slice_index_or numbers value None) n (h value) e }

-- one more is known
pub sets_more : (policy : Parts) (left : Option (List Node)) (sets : List (List Node)) (old new : List (Option ℕ)) (value number : ℕ)
    → AreSetsOf policy left sets old → IsNumberIn sets (filter (leaves left) (expand policy value)) number
    → ((other : ℕ) → (other ≡ value → ⊥) → slice_index_or new other None ≡ slice_index_or old other None)
    → ((n : ℕ) → slice_index_or new value None ≡ Some n → n ≡ number)
    → AreSetsOf policy left sets new
sets_more policy left sets old new value number h one same noted = record {
  each = λ other n e. elim (cases_eq other value) [
    | inl is ↦
        let at : slice_index_or new value None ≡ Some n = ap (λ (v : ℕ). slice_index_or new v None) (sym is) ∙ e in
        subst (λ (v : ℕ). IsNumberIn sets (filter (leaves left) (expand policy v)) n) (sym is)
        (subst (IsNumberIn sets (filter (leaves left) (expand policy value))) (sym (noted n at)) one)
    | inr not ↦ h.each other n (sym (same other not) ∙ e)
  ];
}

-- ---- ends that are no types

pub other_ends : (policy : Parts) (left : Option (List Node)) (table : TableKind) (value : ℕ) → (table ≡ tables.Types → ⊥) → value ∷ [] ≡ ends_left policy left table value
other_ends policy left tables.Types value not = absurd (not refl)
other_ends policy left tables.Commons value not = refl
other_ends policy left tables.Classes value not = refl
other_ends policy left tables.Roles value not = refl
other_ends policy left tables.Users value not = refl
other_ends policy left tables.Booleans value not = refl
other_ends policy left tables.Levels value not = refl
other_ends policy left tables.Categories value not = refl
