-- The names of the checks that were read, and the set of them.
use Rattle.std.proofs.Common.{◌≡◌, ℕ, List, [], ◌∷◌, ◌++◌, Bool, true, false, ◌||◌, Ok, Err, Result, Bor, map, refl, sym, ap, ◌∙◌, inl, inr, append-nil}
use Rattle.std.specs.List.{list_any}
use Rattle.std.specs.Str.{bytes_eq}
use Rattle.std.proofs.lemmas.Bool.{cases_Bool}
use Rattle.std.proofs.lemmas.List.{map_push}
use Rattle.indexmap.specs.IndexSet.{insert_key}
use Rattle.check_list.specs.declared.list_fault.ListFault.{ListFault}
use Rattle.check_list.specs.declared.list_fault.ListCause.TheVariants.{DuplicateName, Missing}
use Rattle.check_list.specs.Checklists.{Check, Last, Nothing, Named, Begun, ended, fault_at, headed, is_whole}
use Rattle.check_list.specs.Inner.LastViews.{names_begun}

abbrev pub names_of : List (Bor (List ℕ)) → List (List ℕ)
names_of names = map (λ name. name.now) names

abbrev pub check_names : List Check → List (List ℕ)
check_names checks = map (λ check. check.name) checks

any_name : (name : List ℕ) (names : List (Bor (List ℕ))) → list_any (λ other. bytes_eq name other.now) names ≡ list_any (bytes_eq name) (names_of names)
any_name name [] = refl
any_name name (n ∷ ns) = ap (λ (b : Bool). bytes_eq name n.now || b) (any_name name ns)

any_check : (name : List ℕ) (checks : List Check) → list_any (λ check. bytes_eq name check.name) checks ≡ list_any (bytes_eq name) (check_names checks)
any_check name [] = refl
any_check name (c ∷ cs) = ap (λ (b : Bool). bytes_eq name c.name || b) (any_check name cs)

-- the last check keeps its name where it ends
ended_names : (checks : List Check) (last : Last) (number : ℕ) (all : List Check) → ended checks last number ≡ Ok all → check_names all ≡ check_names checks ++ names_begun last
ended_names checks Nothing number all is =
    let same : checks ≡ all = cc in
    ap check_names (sym same) ∙ sym (append-nil (check_names checks))
ended_names checks (Named name) number all is = absurd (cc)
ended_names checks (Begun check) number all is = elim (cases_Bool (is_whole check)) [
  | inl whole ↦
      let pushed : let r : Result (List Check) ListFault = Ok (checks ++ check ∷ []) in r ≡ Ok all = rw whole at is in
      let same : checks ++ check ∷ [] ≡ all = cc in
      ap check_names (sym same) ∙ map_push (λ (c : Check). c.name) checks check
  | inr lacks ↦ absurd (let none : let r : Result (List Check) ListFault = Err (fault_at number Missing) in r ≡ Ok all = rw lacks at is in cc)
]

-- the set finds the names of all checks
pub found_name : (name : List ℕ) (keys : List (Bor (List ℕ))) (checks : List Check) (last : Last) (number : ℕ) (all : List Check) → names_of keys ≡ check_names checks ++ names_begun last → ended checks last number ≡ Ok all → list_any (λ check. bytes_eq name check.name) all ≡ list_any (λ other. bytes_eq name other.now) keys
found_name name keys checks last number all are is =
    any_check name all ∙ ap (list_any (bytes_eq name)) (ended_names checks last number all is ∙ sym are) ∙ sym (any_name name keys)

pub headed_there : (name : List ℕ) (number : ℕ) (outcome : Result (List Check) ListFault) (all : List Check) → outcome ≡ Ok all → list_any (λ check. bytes_eq name check.name) all ≡ true → headed name number outcome ≡ Err (fault_at number DuplicateName)
headed_there name number outcome all is there = rw (is, there) refl

pub headed_new : (name : List ℕ) (number : ℕ) (outcome : Result (List Check) ListFault) (all : List Check) → outcome ≡ Ok all → list_any (λ check. bytes_eq name check.name) all ≡ false → headed name number outcome ≡ Ok (record { checks = all; last = Named name })
headed_new name number outcome all is new = rw (is, new) refl

-- one more name
pub names_more : (name : Bor (List ℕ)) (keys : List (Bor (List ℕ))) (checks : List Check) (last : Last) (number : ℕ) (all : List Check) → names_of keys ≡ check_names checks ++ names_begun last → ended checks last number ≡ Ok all → list_any (λ other. bytes_eq name.now other.now) keys ≡ false → names_of (insert_key (λ a b. bytes_eq a.now b.now) keys name) ≡ check_names all ++ name.now ∷ []
names_more name keys checks last number all are is new =
    inserted ∙ ap (λ (names : List (List ℕ)). names ++ name.now ∷ []) (are ∙ sym (ended_names checks last number all is))
  where
    inserted : names_of (insert_key (λ a b. bytes_eq a.now b.now) keys name) ≡ names_of keys ++ name.now ∷ []
    inserted = rw new (map_push (λ (n : Bor (List ℕ)). n.now) keys name)
