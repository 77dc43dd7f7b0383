-- The names that a table has taken, as the set of lent names holds them.
use Rattle.std.proofs.Common.{◌≡◌, ℕ, List, [], ◌∷◌, ◌++◌, Bool, ◌||◌, true, false, refl, ap, Bor, cond}
use Rattle.std.specs.Prelude.{map}
use Rattle.std.specs.List.{list_any}
use Rattle.std.specs.Str.{bytes_eq}
use Rattle.std.proofs.lemmas.List.{map_push}
use Rattle.indexmap.specs.IndexSet.{insert_key}
use Rattle.pol_symtab.specs.Claims.{with_member}

abbrev pub names_of : List (Bor (List ℕ)) → List (List ℕ)
names_of names = map (λ name. name.now) names

pub any_name : (name : List ℕ) (names : List (Bor (List ℕ))) → list_any (λ other. bytes_eq name other.now) names ≡ list_any (bytes_eq name) (names_of names)
any_name name [] = refl
any_name name (n ∷ ns) = ap (λ (b : Bool). bytes_eq name n.now || b) (any_name name ns)

pushed : (name : Bor (List ℕ)) (names : List (Bor (List ℕ))) (there : Bool) → names_of (cond there names (names ++ name ∷ [])) ≡ cond there (names_of names) (names_of names ++ name.now ∷ [])
pushed name names true = refl
pushed name names false = map_push (λ (n : Bor (List ℕ)). n.now) names name

pub inserted_name : (name : Bor (List ℕ)) (names : List (Bor (List ℕ))) → names_of (insert_key (λ a b. bytes_eq a.now b.now) names name) ≡ with_member bytes_eq (names_of names) name.now
inserted_name name names = rw (← any_name name.now names) (pushed name names (list_any (λ other. bytes_eq name.now other.now) names))
