-- The values that names are looked up to.
use Rattle.std.proofs.Common.{◌≡◌, ℕ, Bool, Option, Some, None, Result, Ok, Err, IfOk, zero, suc, ◌+◌, ◌<◌, List, [], ◌∷◌, ◌++◌, map, length, take, get_or, refl, sym, ap, ◌∙◌, add-one, arith}
use Rattle.std.specs.Option.{option_to_list}
use Rattle.std.proofs.lemmas.List.Elements.{filter_map-append}
use Rattle.std.specs.Prelude.{◌↔◌, ◌||◌, nat_eq, Contains}
use Rattle.std.specs.List.{filter_map, list_any, cons_option}
use Rattle.pol_bitmap.specs.declared.Node.{Node}
use Rattle.pol_bitmap.specs.Nodes.{bits_of, has_bit}
use Rattle.named_values.specs.Named.{is_value}
use Rattle.named_values.proofs.Tests.{set_tests}

step : (value : ℕ) (found : Option ℕ) (rest : List ℕ) (others : Bool) → list_any (nat_eq value) rest ≡ others → list_any (nat_eq value) (cons_option found rest) ≡ (is_value found value || others)
step value None rest others e = e
step value (Some x) rest others e = ap (λ (b : Bool). nat_eq value x || b) e

pub looked_up : {N : Type 0} (f : N → Option ℕ) (value : ℕ) (names : List N) → list_any (nat_eq value) (filter_map f names) ≡ list_any (λ name. is_value (f name) value) names
looked_up f value [] = refl
looked_up f value (n ∷ ns) = step value (f n) (filter_map f ns) _ (looked_up f value ns)

any_map : {X Y : Type 0} (p : Y → Bool) (f : X → Y) (xs : List X) → list_any p (map f xs) ≡ list_any (λ x. p (f x)) xs
any_map p f [] = refl
any_map p f (x ∷ xs) = ap (λ (b : Bool). p (f x) || b) (any_map p f xs)

-- a set that was made of them
pub set_named : {N E : Type 0} (bytes : N → List ℕ) (f : List ℕ → Option ℕ) (names : List N) (values : List ℕ) (r : Result (List Node) E) → values ≡ filter_map (λ name. f (bytes name)) names
    → IfOk r (λ set. (bit : ℕ) → Contains (bits_of set) bit ↔ Contains values bit) → IfOk r (λ set. (value : ℕ) → has_bit set value ≡ list_any (λ name. is_value (f name) value) (map bytes names))
set_named bytes f names values (Ok set) is h = λ value. set_tests set values h value ∙ ap (λ (xs : List ℕ). list_any (nat_eq value) xs) is ∙ looked_up (λ name. f (bytes name)) value names ∙ sym (any_map (λ name. is_value (f name) value) bytes names)
set_named bytes f names values (Err e) is h = tt

-- ---- name by name

take_get : {N : Type 0} (names : List N) (i : ℕ) (d : N) → i < length names → take (suc i) names ≡ take i names ++ get_or names i d ∷ []
take_get [] i d lt = absurd (omega (arith, lt))
take_get (y ∷ ys) zero d lt = refl
take_get {N} (y ∷ ys) (suc i) d lt = ap (λ (zs : List N). y ∷ zs) (take_get ys i d (omega (arith, lt)))

one : (o : Option ℕ) → cons_option o [] ≡ option_to_list o
one None = refl
one (Some x) = refl

pub looked_more : {N : Type 0} (f : N → Option ℕ) (names : List N) (i : ℕ) (d : N) (had has : List ℕ) (o : Option ℕ) → i < length names → had ≡ filter_map f (take i names) → has ≡ had ++ option_to_list o → o ≡ f (get_or names i d) → has ≡ filter_map f (take (i + 1) names)
looked_more {N} f names i d had has o lt so_far added is =
    added ∙ ap (λ (xs : List ℕ). xs ++ option_to_list o) so_far
    ∙ ap (λ (o : Option ℕ). filter_map f (take i names) ++ option_to_list o) is
    ∙ ap (λ (xs : List ℕ). filter_map f (take i names) ++ xs) (sym (one (f (get_or names i d))))
    ∙ sym (filter_map-append f (take i names) (get_or names i d ∷ []))
    ∙ ap (filter_map f) (sym (take_get names i d lt))
    ∙ ap (λ (n : ℕ). filter_map f (take n names)) (sym (add-one i))
