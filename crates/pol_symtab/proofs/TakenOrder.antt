-- The names that a table has taken: those that rise in libsepol's order, and the set of all once one did not.
use Rattle.std.proofs.Common.{◌≡◌, ℕ, ◌<◌, Bool, true, false, ◌⊎◌, inl, inr, List, [], ◌∷◌, ◌++◌, refl, sym, ap, subst, ◌∙◌, Bor, arith}
use Rattle.std.specs.Prelude.{◌||◌, ◌&&◌, nat_eq, nat_lt}
use Rattle.std.specs.List.{list_any}
use Rattle.std.specs.Str.{bytes_eq}
use Rattle.std.proofs.lemmas.Bool.{true≢false, cases_Bool, or_cases, or_from, or_left, or_right, and_parts, and_from, and_right, false_from_ne_true, ltb-true, lt-ltb, le-ltb, eqb-true, eq-eqb}
use Rattle.std.proofs.lemmas.List.{map_push}
use Rattle.std.proofs.lemmas.List.Folds.{list_any-append}
use Rattle.indexmap.specs.IndexSet.{insert_key}
use Rattle.pol_symtab.specs.Claims.{with_member}
use Rattle.pol_symtab.specs.SymbolTables.{is_below}
use Rattle.pol_symtab.specs.Inner.TakenMembers.{slot_of, is_behind, NoneBehind, AreInSet, AreFound}
use Rattle.pol_symtab.proofs.ByteOrder.{below_trans, not_below_itself, same_name}
use Rattle.pol_symtab.proofs.TakenNames.{names_of, inserted_name}
use Rattle.pol_cursor.proofs.BitPlaces.{or_nothing}

-- ---- one more member

pub with_there : (names : List (List ℕ)) (name : List ℕ) → list_any (bytes_eq name) names ≡ true → names ≡ with_member bytes_eq names name
with_there names name e = rw e refl

pub with_new : (names : List (List ℕ)) (name : List ℕ) → list_any (bytes_eq name) names ≡ false → names ++ name ∷ [] ≡ with_member bytes_eq names name
with_new names name e = rw e refl

any_pushed : (names : List (List ℕ)) (name other : List ℕ) → list_any (bytes_eq other) (names ++ name ∷ []) ≡ (list_any (bytes_eq other) names || bytes_eq other name)
any_pushed names name other = list_any-append (bytes_eq other) names (name ∷ []) ∙ ap (λ (b : Bool). list_any (bytes_eq other) names || b) (or_nothing (bytes_eq other name))

-- a member is there already
any_same : (names : List (List ℕ)) (name other : List ℕ) → list_any (bytes_eq name) names ≡ true → list_any (bytes_eq other) names ≡ (list_any (bytes_eq other) names || bytes_eq other name)
any_same names name other there = elim (cases_Bool (bytes_eq other name)) [
  | inl same ↦
      let has : list_any (bytes_eq other) names ≡ true = subst (λ (n : List ℕ). list_any (bytes_eq n) names ≡ true) (sym (same_name other name same)) there in
      has ∙ sym (or_left _ _ has)
  | inr differs ↦ sym (ap (λ (b : Bool). list_any (bytes_eq other) names || b) differs ∙ or_nothing _)
]

any_with : (names : List (List ℕ)) (name other : List ℕ) → list_any (bytes_eq other) (with_member bytes_eq names name) ≡ (list_any (bytes_eq other) names || bytes_eq other name)
any_with names name other = elim (cases_Bool (list_any (bytes_eq name) names)) [
  | inl there ↦ ap (λ (ns : List (List ℕ)). list_any (bytes_eq other) ns) (sym (with_there names name there)) ∙ any_same names name other there
  | inr new ↦ ap (λ (ns : List (List ℕ)). list_any (bytes_eq other) ns) (sym (with_new names name new)) ∙ any_pushed names name other
]

-- the set with one more of the names
pub in_set_more : (names set : List (Bor (List ℕ))) (name : Bor (List ℕ)) → AreInSet (names_of names) (names_of set)
    → AreInSet (names_of (names ++ name ∷ [])) (names_of (insert_key (λ a b. bytes_eq a.now b.now) set name))
in_set_more names set name are other =
    ap (λ (ns : List (List ℕ)). list_any (bytes_eq other) ns) (inserted_name name set)
    ∙ any_with (names_of set) name.now other
    ∙ ap (λ (b : Bool). b || bytes_eq other name.now) (are other)
    ∙ sym (any_pushed (names_of names) name.now other)
    ∙ ap (λ (ns : List (List ℕ)). list_any (bytes_eq other) ns) (sym (map_push (λ (n : Bor (List ℕ)). n.now) names name))

pub found_in_set : (rises : Bool) (mask slot : ℕ) (last : List ℕ) (names set : List (List ℕ)) → rises ≡ false → AreFound rises mask slot last names set → AreInSet names set
found_in_set true mask slot last names set e found = absurd (true≢false e)
found_in_set false mask slot last names set e found = found

-- ---- the order

behind_cases : (a b : ℕ) (x y : List ℕ) → is_behind a x b y ≡ true → (a < b) ⊎ ((b ≡ a) × (is_below x y ≡ true))
behind_cases a b x y e = elim (or_cases (nat_lt a b) (nat_eq b a && is_below x y) e) [
  | inl lt ↦ inl (ltb-true a b lt)
  | inr same ↦ let parts = and_parts (nat_eq b a) (is_below x y) same in inr (eqb-true b a parts.0, parts.1)
]

behind_slot : (a b : ℕ) (x y : List ℕ) → a < b → is_behind a x b y ≡ true
behind_slot a b x y lt = or_left (nat_lt a b) (nat_eq b a && is_below x y) (lt-ltb a b lt)

behind_name : (a b : ℕ) (x y : List ℕ) → b ≡ a → is_below x y ≡ true → is_behind a x b y ≡ true
behind_name a b x y e below = or_right (nat_lt a b) (nat_eq b a && is_below x y) (and_from (nat_eq b a) (is_below x y) (eq-eqb b a e) below)

behind_trans : (a b c : ℕ) (x y z : List ℕ) → is_behind a x b y ≡ true → is_behind b y c z ≡ true → is_behind a x c z ≡ true
behind_trans a b c x y z e f = elim (behind_cases a b x y e) [
  | inl lt ↦
      elim (behind_cases b c y z f) [
        | inl more ↦ behind_slot a c x z (omega (arith, lt, more))
        | inr same ↦ behind_slot a c x z (omega (arith, lt, same.0))
      ]
  | inr same ↦
      elim (behind_cases b c y z f) [
        | inl more ↦ behind_slot a c x z (omega (arith, same.0, more))
        | inr again ↦ behind_name a c x z (omega (arith, same.0, again.0)) (below_trans x y z same.1 again.1)
      ]
]

not_behind_itself : (a : ℕ) (x : List ℕ) → is_behind a x a x ≡ false
not_behind_itself a x = or_from (nat_lt a a) (nat_eq a a && is_below x x) (le-ltb a a (omega arith)) (and_right (nat_eq a a) (is_below x x) (not_below_itself x))

none_more : (mask last_slot slot : ℕ) (last name : List ℕ) (names : List (List ℕ)) → slot ≡ slot_of mask name → is_behind last_slot last slot name ≡ true
    → NoneBehind mask last_slot last names → NoneBehind mask slot name (names ++ name ∷ [])
none_more mask last_slot slot last name names is behind none other after =
    let differs : bytes_eq other name ≡ false = false_from_ne_true (bytes_eq other name) (λ same.
    let itself : is_behind slot name slot name ≡ true =
    subst (λ (n : ℕ). is_behind slot name n name ≡ true) (sym is) (subst (λ (n : List ℕ). is_behind slot name (slot_of mask n) n ≡ true) (same_name other name same) after) in
    true≢false (sym itself ∙ not_behind_itself slot name)) in
    any_pushed names name other
    ∙ or_from (list_any (bytes_eq other) names) (bytes_eq other name) (none other (behind_trans last_slot slot (slot_of mask other) last name other behind after)) differs

-- one name more, which rises
pub found_more : (rises : Bool) (mask last_slot slot : ℕ) (last name : List ℕ) (names set : List (List ℕ)) → rises ≡ true → slot ≡ slot_of mask name → is_behind last_slot last slot name ≡ true
    → AreFound rises mask last_slot last names set → AreFound rises mask slot name (names ++ name ∷ []) set
found_more true mask last_slot slot last name names set e is behind found = none_more mask last_slot slot last name names is behind found
found_more false mask last_slot slot last name names set e is behind found = absurd (true≢false (sym e))
