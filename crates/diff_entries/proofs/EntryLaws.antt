-- The laws of differences, of entries.
use Rattle.std.proofs.Common.{◌≡◌, ℕ, Bool, true, false, List, [], ◌∷◌, map, refl, sym, ap, ◌∙◌}
use Rattle.std.specs.Prelude.{◌==◌, ◌&&◌}
use Rattle.std.specs.declared.cmp.Ordering.{Ordering}
use Rattle.std.specs.declared.cmp.Ordering.TheVariants.{Less, Equal, Greater}
use Rattle.std.specs.Ordering.{nat_cmp, ordering_then}
use Rattle.std.specs.Cmp.{IsEquivalence}
use Rattle.std.specs.Cmp.Lexicographic.{pointwise, slice_cmp}
use Rattle.std.proofs.lemmas.Cmp.{lists_equiv, lists_total, nat_eq_equiv, nat_list_cmp_total}
use Rattle.pol_symtab.proofs.ByteOrder.{equal_is_same}
use Rattle.keyed_lists.specs.KeyOrder.{IsKeyOrder}
use Rattle.keyed_lists.specs.Differences.{AreAlike, entry_after, entry_with, turned}
use Rattle.keyed_lists.proofs.DifferenceLaws.{none_from_itself, differences_turned, completed}
use Rattle.diff_entries.specs.declared.parts.Part.{Part}
use Rattle.diff_entries.specs.declared.parts.PartValue.{PartValue}
use Rattle.diff_entries.specs.declared.parts.PartValue.TheVariants.{Names, Form}
use Rattle.diff_entries.specs.Parts.{same_names, same_part, same_parts, same_value}
use Rattle.diff_entries.specs.Entries.{Entry, entry_differences, key_cmp, name_cmp, same_entry}

-- ---- keys that compare as equal are the same

same_if : (o p : Ordering) → ordering_then o p ≡ Equal → (o ≡ Equal) × (p ≡ Equal)
same_if Less p e = absurd cc
same_if Equal p e = (refl, e)
same_if Greater p e = absurd cc

same_key : (a b : List (List ℕ)) → key_cmp a b ≡ Equal → a ≡ b
same_key [] [] e = refl
same_key [] (y ∷ ys) e = absurd cc
same_key (x ∷ xs) [] e = absurd cc
same_key (x ∷ xs) (y ∷ ys) e =
    let h = same_if (name_cmp x y) (key_cmp xs ys) e in
    rw (equal_is_same x y h.0, same_key xs ys h.1) refl

key_order : IsKeyOrder key_cmp
key_order = record { total = lists_total nat_list_cmp_total; same = same_key }

-- ---- parts are the same as themselves, and whichever comes first

names_equiv : IsEquivalence same_names
names_equiv = lists_equiv (lists_equiv nat_eq_equiv)

forms_equiv : IsEquivalence (pointwise same_names)
forms_equiv = lists_equiv names_equiv

itself : (v : PartValue) → same_value v v ≡ true
itself (Names a) = names_equiv.refl a
itself (Form a text) = forms_equiv.refl a

either : (v w : PartValue) → same_value v w ≡ same_value w v
either (Names a) (Names b) = names_equiv.symm a b
either (Names a) (Form b text) = refl
either (Form a text) (Names b) = refl
either (Form a text) (Form b other) = forms_equiv.symm a b

parts_themselves : (parts : List Part) → same_parts parts parts ≡ true
parts_themselves [] = refl
parts_themselves (p ∷ parts) = rw (itself p.value) (parts_themselves parts)

parts_either : (parts others : List Part) → same_parts parts others ≡ same_parts others parts
parts_either [] [] = refl
parts_either [] (q ∷ others) = refl
parts_either (p ∷ parts) [] = refl
parts_either (p ∷ parts) (q ∷ others) = rw (either p.value q.value, parts_either parts others) refl

-- ---- the laws

pub none_from_themselves : (entries : List Entry) → entry_differences entries entries ≡ []
none_from_themselves entries = none_from_itself same_entry (λ e. parts_themselves e.parts) key_cmp (λ e. e.key) entries

pub entries_turned : (first second : List Entry) → entry_differences second first ≡ map turned (entry_differences first second)
entries_turned first second = differences_turned same_entry (λ a b. parts_either a.parts b.parts) key_cmp key_order (λ e. e.key) first second

pub entries_completed : (first second : List Entry) (key : List (List ℕ)) → AreAlike same_entry (entry_after key_cmp (λ e. e.key) (entry_differences first second) first key) (entry_with key_cmp (λ e. e.key) second key)
entries_completed first second key = completed key_cmp key_order (λ e. e.key) same_entry (λ e. parts_themselves e.parts) first second key
