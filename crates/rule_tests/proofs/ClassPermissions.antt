-- The permissions of a class, which are its own and those of its common.
use Rattle.std.proofs.Common.{◌≡◌, ℕ, zero, suc, ◌+◌, ◌<◌, Bool, true, false, Option, Result, Ok, Err, IfOk, List, [], ◌∷◌, ◌++◌, map, length, take, get_or, refl, sym, ap, ◌∙◌, add-one, arith}
use Rattle.std.proofs.lemmas.List.{map-append}
use Rattle.std.specs.Prelude.{◌||◌, ◌&&◌, not, bit_or, codes}
use Rattle.std.specs.Str.{bytes_eq}
use Rattle.std.specs.List.{filter, filter_map, cons_option, list_any, list_all}
use Rattle.std.proofs.lemmas.List.Elements.{filter-append}
use Rattle.std.proofs.lemmas.List.Sums.{fold-append}
use Rattle.pol_commons.specs.declared.PermissionRec.{PermissionRec}
use Rattle.pol_commons.specs.Permissions.{bit_of}
use Rattle.rule_tests.specs.declared.class_bits.ClassBits.{ClassBits}
use Rattle.rule_criteria.specs.declared.Mode.{Mode}
use Rattle.rule_criteria.specs.declared.Mode.TheVariants.{Plain, Direct, Pattern, PatternDirect, Equal, Subset}
use Rattle.rule_tests.specs.AskedPermissions.{is_one_of, compare_names}
use Rattle.rule_tests.specs.PartTests.{bits_behind, bits_named, IsClassBits}

pub together : (test : PermissionRec → Bool) (own inherited : List PermissionRec) → bits_behind (bits_behind 0 (filter test own)) (filter test inherited) ≡ bits_behind 0 (filter test (own ++ inherited))
together test own inherited =
    sym (fold-append (λ (mask : ℕ) (p : PermissionRec). bit_or mask (bit_of p)) 0 (filter test own) (filter test inherited))
    ∙ ap (bits_behind 0) (sym (filter-append test own inherited))

pub any_map : {X Y : Type 0} (p : Y → Bool) (f : X → Y) (xs : List X) → list_any p (map f xs) ≡ list_any (λ x. p (f x)) xs
any_map p f [] = refl
any_map p f (x ∷ xs) = ap (λ (b : Bool). p (f x) || b) (any_map p f xs)

pub all_map : {X Y : Type 0} (p : Y → Bool) (f : X → Y) (xs : List X) → list_all p (map f xs) ≡ list_all (λ x. p (f x)) xs
all_map p f [] = refl
all_map p f (x ∷ xs) = ap (λ (b : Bool). p (f x) && b) (all_map p f xs)

map_map : {X Y Z : Type 0} (g : Y → Z) (f : X → Y) (xs : List X) → map g (map f xs) ≡ map (λ x. g (f x)) xs
map_map g f [] = refl
map_map {X} {Y} {Z} g f (x ∷ xs) = ap (λ (zs : List Z). g (f x) ∷ zs) (map_map g f xs)

filter_same : {X : Type 0} (p q : X → Bool) → ((x : X) → p x ≡ q x) → (xs : List X) → filter p xs ≡ filter q xs
filter_same p q h [] = refl
filter_same p q h (x ∷ xs) = rw (h x, filter_same p q h xs) refl

-- the bits of a class, by names behind references
pub class_bits_are : {N : Type 0} (bytes : N → List ℕ) (names : List N) (permissions : List PermissionRec) (bits : ClassBits)
    → bits.named.items ≡ map (λ name. bits_named (bytes name) permissions) names
    → bits.others ≡ bits_behind 0 (filter (λ (p : PermissionRec). not (list_any (λ other. bytes_eq p.name (bytes other)) names)) permissions)
    → IsClassBits (map bytes names) permissions bits
class_bits_are bytes names permissions bits named others = record {
  named = named ∙ sym (map_map (λ (name : List ℕ). bits_named name permissions) bytes names);
  others = others ∙ ap (bits_behind 0) (filter_same (λ (p : PermissionRec). not (list_any (λ other. bytes_eq p.name (bytes other)) names)) (λ (p : PermissionRec). not (is_one_of (map bytes names) p.name)) (λ p. ap not (sym (any_map (bytes_eq p.name) bytes names))) permissions);
}

pub two_lists : (test : PermissionRec → Bool) (own inherited own' inherited' : List PermissionRec) (a b : ℕ) → own ≡ own' → inherited ≡ inherited' → a ≡ bits_behind 0 (filter test own) → b ≡ bits_behind a (filter test inherited) → b ≡ bits_behind 0 (filter test (own' ++ inherited'))
two_lists test own inherited own' inherited' a b e f g h =
    h ∙ ap (λ (bits : ℕ). bits_behind bits (filter test inherited)) g ∙ together test own inherited
    ∙ ap (λ (xs : List PermissionRec). bits_behind 0 (filter test (xs ++ inherited))) e
    ∙ ap (λ (xs : List PermissionRec). bits_behind 0 (filter test (own' ++ xs))) f

-- ---- name by name

pub take_get : {N : Type 0} (names : List N) (i : ℕ) (d : N) → i < length names → take (suc i) names ≡ take i names ++ get_or names i d ∷ []
take_get [] i d lt = absurd (omega (arith, lt))
take_get (y ∷ ys) zero d lt = refl
take_get {N} (y ∷ ys) (suc i) d lt = ap (λ (zs : List N). y ∷ zs) (take_get ys i d (omega (arith, lt)))

pub mapped_more : {N B : Type 0} (f : N → B) (names : List N) (i : ℕ) (d : N) (had has : List B) (x : B) → i < length names → had ≡ map f (take i names) → has ≡ had ++ x ∷ [] → x ≡ f (get_or names i d) → has ≡ map f (take (i + 1) names)
mapped_more {N} {B} f names i d had has x lt so_far added is =
    added ∙ ap (λ (xs : List B). xs ++ x ∷ []) so_far
    ∙ ap (λ (y : B). map f (take i names) ++ y ∷ []) is
    ∙ sym (map-append f (take i names) (get_or names i d ∷ []))
    ∙ ap (map f) (sym (take_get names i d lt))
    ∙ ap (λ (n : ℕ). map f (take n names)) (sym (add-one i))

-- tests of names behind references, and of their bytes
pub any_names : {N : Type 0} (p : List ℕ → Bool) (bytes : N → List ℕ) (items names : List N) (xs : List (List ℕ)) → names ≡ items → map bytes items ≡ xs → list_any (λ name. p (bytes name)) names ≡ list_any p xs
any_names {N} p bytes items names xs same are = ap (λ (l : List N). list_any (λ name. p (bytes name)) l) same ∙ sym (any_map p bytes items) ∙ ap (list_any p) are

pub all_names : {N : Type 0} (p : List ℕ → Bool) (bytes : N → List ℕ) (items names : List N) (xs : List (List ℕ)) → names ≡ items → map bytes items ≡ xs → list_all (λ name. p (bytes name)) names ≡ list_all p xs
all_names {N} p bytes items names xs same are = ap (λ (l : List N). list_all (λ name. p (bytes name)) l) same ∙ sym (all_map p bytes items) ∙ ap (list_all p) are

-- ---- what a mode says of the one permission of extended rules

abbrev pub ioctl : List ℕ
ioctl = codes "ioctl"

pub equal_there : {N : Type 0} (bytes : N → List ℕ) (names : List N) (all : Bool) → list_any (λ other. bytes_eq ioctl (bytes other)) names ≡ true → all ≡ list_all (λ name. is_one_of (ioctl ∷ []) (bytes name)) names → all ≡ compare_names Equal (map bytes names) (ioctl ∷ [])
equal_there bytes names all there is =
    let among : is_one_of (map bytes names) ioctl ≡ true = any_map (bytes_eq ioctl) bytes names ∙ there in
    rw among (is ∙ sym (all_map (is_one_of (ioctl ∷ [])) bytes names))

pub equal_not : {N : Type 0} (bytes : N → List ℕ) (names : List N) (r : Bool) → r ≡ list_any (λ other. bytes_eq ioctl (bytes other)) names → r ≡ false → r ≡ compare_names Equal (map bytes names) (ioctl ∷ [])
equal_not bytes names r is missing =
    let among : is_one_of (map bytes names) ioctl ≡ false = any_map (bytes_eq ioctl) bytes names ∙ sym is ∙ missing in
    rw among missing

pub subset_is : {N : Type 0} (bytes : N → List ℕ) (names : List N) (all : Bool) → all ≡ list_all (λ name. is_one_of (ioctl ∷ []) (bytes name)) names → all ≡ compare_names Subset (map bytes names) (ioctl ∷ [])
subset_is bytes names all is = is ∙ sym (all_map (is_one_of (ioctl ∷ [])) bytes names)

pub shares_is : {N : Type 0} (mode : Mode) (bytes : N → List ℕ) (names : List N) (any : Bool) → (mode ≡ Equal → ⊥) → (mode ≡ Subset → ⊥) → any ≡ list_any (λ name. is_one_of (ioctl ∷ []) (bytes name)) names → any ≡ compare_names mode (map bytes names) (ioctl ∷ [])
shares_is Equal bytes names any no_equal no_subset is = absurd (no_equal refl)
shares_is Subset bytes names any no_equal no_subset is = absurd (no_subset refl)
shares_is Plain bytes names any no_equal no_subset is = is ∙ sym (any_map (is_one_of (ioctl ∷ [])) bytes names)
shares_is Direct bytes names any no_equal no_subset is = is ∙ sym (any_map (is_one_of (ioctl ∷ [])) bytes names)
shares_is Pattern bytes names any no_equal no_subset is = is ∙ sym (any_map (is_one_of (ioctl ∷ [])) bytes names)
shares_is PatternDirect bytes names any no_equal no_subset is = is ∙ sym (any_map (is_one_of (ioctl ∷ [])) bytes names)

-- ---- spans that a text lists

filter_map_map : {X Y Z : Type 0} (f : Y → Option Z) (g : X → Y) (xs : List X) → filter_map f (map g xs) ≡ filter_map (λ x. f (g x)) xs
filter_map_map f g [] = refl
filter_map_map {X} {Y} {Z} f g (x ∷ xs) = ap (cons_option (f (g x))) (filter_map_map f g xs)

pub listed_of : {N V S E : Type 0} (f : List ℕ → Option S) (bytes : N → List ℕ) (items names : List N) (xs : List (List ℕ)) (items_of : V → List S) (r : Result V E) → names ≡ items → map bytes items ≡ xs → IfOk r (λ v. items_of v ≡ filter_map (λ name. f (bytes name)) names) → IfOk r (λ v. items_of v ≡ filter_map f xs)
listed_of f bytes items names xs items_of (Err e) same are h = tt
listed_of {N} f bytes items names xs items_of (Ok v) same are h = h ∙ ap (λ (l : List N). filter_map (λ name. f (bytes name)) l) same ∙ sym (filter_map_map f bytes items) ∙ ap (filter_map f) are
