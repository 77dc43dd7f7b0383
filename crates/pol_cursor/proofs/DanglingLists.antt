-- The first reference of lists that are put together.
use Rattle.std.proofs.Common.{◌≡◌, ℕ, ◌+◌, Option, Some, None, Bool, true, false, List, [], ◌∷◌, ◌++◌, drop, slice_get, Result, Ok, Err, refl, ap, ◌∙◌}
use Rattle.std.specs.Prelude.{is_some, if◌then◌else◌}
use Rattle.std.specs.List.{flat_map}
use Rattle.std.proofs.lemmas.List.{drop_more}
use Rattle.std.proofs.lemmas.List.Concat.{flat_map-cons}
use Rattle.std.proofs.lemmas.Option.{slice_get_within, get_or_from_slice_get}
use Rattle.pol_fields.specs.declared.fault.Fault.{Fault}
use Rattle.pol_cursor.specs.References.{Named, Placed, Reference, dangling_of, AreDeclared}

one_dangles : (b : Bool) (f g : Fault) (x y : Option Fault) → (x ≡ Some g → y ≡ Some g) → (if b then x else Some f) ≡ Some g → (if b then y else Some f) ≡ Some g
one_dangles true f g x y h e = h e
one_dangles false f g x y h e = e

-- all references of the first list are declared
pub dangling_none : (named : Named) (rs others : List Reference) → dangling_of named rs ≡ None → dangling_of named (rs ++ others) ≡ dangling_of named others
dangling_none named [] others e = refl
dangling_none named (r ∷ rs) others e = later _ (is_some (named r.table r.value)) _ _ e (λ none. dangling_none named rs others none)
  where
    later : (f : Fault) (b : Bool) (x y : Option Fault) → (if b then x else Some f) ≡ None → (x ≡ None → y ≡ dangling_of named others) → (if b then y else Some f) ≡ dangling_of named others
    later f true x y e h = h e
    later f false x y e h = absurd cc

-- one of them is not
pub undeclared_first : (named : Named) (rs others : List Reference) (f : Fault) → dangling_of named rs ≡ Some f → dangling_of named (rs ++ others) ≡ Some f
undeclared_first named [] others f e = absurd cc
undeclared_first named (r ∷ rs) others f e = one_dangles (is_some (named r.table r.value)) _ f _ _ (λ some. undeclared_first named rs others f some) e

-- the references of the first list are declared, and one of the others is not
pub undeclared_later : (named : Named) (rs others : List Reference) (f : Fault) → dangling_of named rs ≡ None → dangling_of named others ≡ Some f → dangling_of named (rs ++ others) ≡ Some f
undeclared_later named rs others f none some = dangling_none named rs others none ∙ some

-- the references of both lists are declared
pub both_declared : (named : Named) (rs others : List Reference) → dangling_of named rs ≡ None → dangling_of named others ≡ None → dangling_of named (rs ++ others) ≡ None
both_declared named rs others none others_none = dangling_none named rs others none ∙ others_none

-- the references of the first list are declared, so that the others decide
pub others_decide : (named : Named) (rs others : List Reference) (result : Result (Unit {0}) Fault) → dangling_of named rs ≡ None → AreDeclared result named others → AreDeclared result named (rs ++ others)
others_decide named rs others (Ok u) none are = both_declared named rs others none are
others_decide named rs others (Err f) none are = undeclared_later named rs others f none are

-- ---- the records of a list from one on

from_here : {A : Type 0} (references : Placed A → List Reference) (records : List (Placed A)) (i : ℕ) (record_i : Placed A) → slice_get records i ≡ Some record_i
    → flat_map references (drop i records) ≡ references record_i ++ flat_map references (drop (i + 1) records)
from_here references records i r e =
    ap (flat_map references) (drop_more records i r (slice_get_within records i r e) ∙ ap (λ x. x ∷ drop (i + 1) records) (get_or_from_slice_get records i r r e)) ∙ flat_map-cons references r (drop (i + 1) records)

pub dangling_later : {A : Type 0} (named : Named) (references : Placed A → List Reference) (records : List (Placed A)) (i : ℕ) (r : Placed A) → slice_get records i ≡ Some r → dangling_of named (references r) ≡ None
    → dangling_of named (flat_map references (drop i records)) ≡ dangling_of named (flat_map references (drop (i + 1) records))
dangling_later named references records i r e none = ap (dangling_of named) (from_here references records i r e) ∙ dangling_none named (references r) _ none

pub dangling_here : {A : Type 0} (named : Named) (references : Placed A → List Reference) (records : List (Placed A)) (i : ℕ) (r : Placed A) (f : Fault) → slice_get records i ≡ Some r → dangling_of named (references r) ≡ Some f
    → dangling_of named (flat_map references (drop i records)) ≡ Some f
dangling_here named references records i r f e some = ap (dangling_of named) (from_here references records i r e) ∙ undeclared_first named (references r) _ f some
