-- The weights of a map that gains entries.
use Rattle.std.proofs.Common.{◌≡◌, ℕ, List, [], ◌∷◌, Bool, true, false, ◌&&◌, cond, Option, Some, None, option_map, map, reverse, refl, sym, ap, ◌∙◌, inl, inr}
use Rattle.std.specs.Cmp.Lexicographic.{bytes_decides}
use Rattle.std.proofs.lemmas.Bool.{and_parts, cases_Bool, false≢true}
use Rattle.std.proofs.Math.Path.{fun_ext}
use Rattle.std.specs.List.{find}
use Rattle.std.specs.Map.{lookup}
use Rattle.std.specs.Option.{option_or}
use Rattle.std.specs.Str.{bytes_eq}
use Rattle.std.proofs.lemmas.List.{reverse-reverse}
use Rattle.std.proofs.lemmas.List.Folds.{find-append}
use Rattle.std.proofs.lemmas.Grind.{reverse_onto}
use Rattle.indexmap.specs.IndexMap.{insert_entry}
use Rattle.perm_map.specs.declared.direction.Direction.{Direction}
use Rattle.perm_map.specs.declared.map.Key.{Key}
use Rattle.perm_map.specs.PermissionMap.{Entry, Weights, is_for, weights_of}
use Rattle.perm_map.specs.Inner.MapReading.{with_entries, with_entry}
use Rattle.perm_map.specs.Inner.KeyedWeights.{entries_kept, entry_kept}

abbrev weight_of : Entry → Direction × ℕ
weight_of entry = (entry.direction, entry.weight)

-- ---- all entries

joined : (found : Option Entry) (passes : Bool) (e : Entry) (old : Option (Direction × ℕ)) → option_or (option_map weight_of found) (cond passes (Some (weight_of e)) old) ≡ option_or (option_map weight_of (option_or found (cond passes (Some e) None))) old
joined None true e old = refl
joined None false e old = refl
joined (Some x) true e old = refl
joined (Some x) false e old = refl

gained_at : (w : Weights) (entries : List Entry) (class permission : List ℕ) → with_entries w entries class permission ≡ option_or (weights_of entries class permission) (w class permission)
gained_at w [] class permission = refl
gained_at w (e ∷ es) class permission =
    let test = is_for class permission in
    let turned : find test (reverse (e ∷ es)) ≡ option_or (find test (reverse es)) (cond (test e) (Some e) None) = ap (find test) (reverse_onto es e []) ∙ find-append test (reverse es) (e ∷ []) in
    gained_at (with_entry w e) es class permission
    ∙ joined (find test (reverse es)) (test e) e (w class permission)
    ∙ ap (λ (found : Option Entry). option_or (option_map weight_of found) (w class permission)) (sym turned)

or_none : (o : Option (Direction × ℕ)) → option_or o None ≡ o
or_none None = refl
or_none (Some x) = refl

pub gained_all : (entries : List Entry) → with_entries (weights_of []) entries ≡ weights_of entries
gained_all entries = fun_ext (λ class. fun_ext (λ permission. gained_at (weights_of []) entries class permission ∙ or_none (weights_of entries class permission)))

-- ---- a map by keys

-- names of a class and a permission are those of a key
abbrev pub is_key : List ℕ → List ℕ → Key → Bool
is_key class permission key = bytes_eq class key.class.now && bytes_eq permission key.permission.now

found_kept : (class permission : List ℕ) (kept : List (Key × (Direction × ℕ))) → option_map weight_of (find (is_for class permission) (map entry_kept kept)) ≡ lookup (is_key class permission) kept
found_kept class permission [] = refl
found_kept class permission (e ∷ es) = by (is_key class permission e.0) (found_kept class permission es)
  where
    by : (test : Bool) → option_map weight_of (find (is_for class permission) (map entry_kept es)) ≡ lookup (is_key class permission) es → option_map weight_of (cond test (Some (entry_kept e)) (find (is_for class permission) (map entry_kept es))) ≡ cond test (Some e.1) (lookup (is_key class permission) es)
    by true rest = refl
    by false rest = rest

-- the weights of what is kept are looked up
pub kept_lookup : (class permission : List ℕ) (kept : List (Key × (Direction × ℕ))) → weights_of (entries_kept kept) class permission ≡ lookup (is_key class permission) kept
kept_lookup class permission kept =
    ap (λ (entries : List Entry). option_map weight_of (find (is_for class permission) entries)) (reverse-reverse (map entry_kept kept)) ∙ found_kept class permission kept

names_equal : (class permission : List ℕ) (key : Key) → is_key class permission key ≡ true → (class ≡ key.class.now) × (permission ≡ key.permission.now)
names_equal class permission key same =
    let parts = and_parts (bytes_eq class key.class.now) (bytes_eq permission key.permission.now) same in
    ((bytes_decides class key.class.now).0 parts.0, (bytes_decides permission key.permission.now).0 parts.1)

both : (test : Bool) (new old rest : Option (Direction × ℕ)) → cond test new rest ≡ cond test new (cond test old rest)
both true new old rest = refl
both false new old rest = refl

either : (mine other : Bool) (new old rest : Option (Direction × ℕ)) → (mine ≡ true → other ≡ false) → cond other old (cond mine new rest) ≡ cond mine new (cond other old rest)
either true true new old rest apart = absurd (false≢true (sym (apart refl)))
either true false new old rest apart = refl
either false other new old rest apart = refl

-- a look-up after a key was put in
lookup_inserted : (class permission : List ℕ) (k : Key) (v : Direction × ℕ) (kept : List (Key × (Direction × ℕ))) → lookup (is_key class permission) (insert_entry (λ a b. is_key a.class.now a.permission.now b) kept k v) ≡ cond (is_key class permission k) (Some v) (lookup (is_key class permission) kept)
lookup_inserted class permission k v [] = refl
lookup_inserted class permission k v (e ∷ es) = elim (cases_Bool (is_key k.class.now k.permission.now e.0)) [
  | inl same ↦
      let names = names_equal k.class.now k.permission.now e.0 same in
      let alike : is_key class permission k ≡ is_key class permission e.0 = cc in
      rw (same, alike) (both (is_key class permission e.0) (Some v) (Some e.1) (lookup (is_key class permission) es))
  | inr other ↦
      let apart : is_key class permission k ≡ true → is_key class permission e.0 ≡ false = λ mine. (let names = names_equal class permission k mine in cc) in
      rw (other, lookup_inserted class permission k v es) (either (is_key class permission k) (is_key class permission e.0) (Some v) (Some e.1) (lookup (is_key class permission) es) apart)
]

-- an entry that is put in replaces the one for its class and permission
pub inserted : (k : Key) (v : Direction × ℕ) (kept : List (Key × (Direction × ℕ))) → weights_of (entries_kept (insert_entry (λ a b. is_key a.class.now a.permission.now b) kept k v)) ≡ with_entry (weights_of (entries_kept kept)) (entry_kept (k, v))
inserted k v kept = fun_ext (λ class. fun_ext (λ permission.
    kept_lookup class permission (insert_entry (λ a b. is_key a.class.now a.permission.now b) kept k v)
    ∙ lookup_inserted class permission k v kept
    ∙ ap (λ (old : Option (Direction × ℕ)). cond (is_key class permission k) (Some v) old) (sym (kept_lookup class permission kept))))
