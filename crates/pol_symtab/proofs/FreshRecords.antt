-- That each record which is read is fresh, by its parts.
use Rattle.std.proofs.Common.{◌≡◌, ℕ, ◌≤◌, Bool, true, false, ◌&&◌, List, Option, Some, None, refl, subst, cond}
use Rattle.std.specs.Prelude.{nat_le}
use Rattle.std.specs.List.{list_all}
use Rattle.std.proofs.lemmas.Bool.{leb-true}
use Rattle.pol_fields.specs.declared.fault.Cause.{Cause}
use Rattle.pol_fields.specs.declared.fault.Cause.TheVariants.{BadNameByte, DuplicateName, DuplicateValue, ValueOut}
use Rattle.pol_fields.specs.declared.field.Field.{Field}
use Rattle.pol_cursor.specs.Outcome.{Reader, Got, ◌>>=◌, checked, judged, done}
use Rattle.pol_cursor.specs.Parts.{number, string, unless}
use Rattle.pol_cursor.proofs.Laws.{and_then_got, judged_got}
use Rattle.pol_symtab.specs.Claims.{Claims, has_name, has_value}
use Rattle.pol_symtab.specs.SymbolFields.{symbol_length_at, symbol_name_at, is_name_byte, length_test, name_test, value_test, new_value_test, primary_value_test}
use Rattle.pol_symtab.specs.Inner.Freshness.{Gives}

-- ---- the parts of a record, one after the other, as its definition has them

got_value : {A : Type 0} (x y : A) (n m : ℕ) → Got x n ≡ Got y m → x ≡ y
got_value x y n m e = cc

-- a part, and then the others
pub Gives-part : {A B : Type 0} {r : Reader A} {f : A → Reader B} {P : A → Type 0} {Q : B → Type 0} → Gives r P → ((x : A) → P x → Gives (f x) Q) → Gives (r >>= f) Q
Gives-part {A} {B} {r} {f} hr hf = record {
  each = λ bytes place y end e.
      let g = and_then_got (r bytes place) (λ x next. f x bytes next) y end e in
      (hf g.0 (hr.each bytes place g.0 g.1 g.2)).each bytes g.1 y end g.3;
}

-- a part of which nothing need be known
pub Gives-any : {A : Type 0} (r : Reader A) → Gives r (λ _. Unit {0})
Gives-any r = record { each = λ bytes place x next e. tt }

pub Gives-done : {A : Type 0} (P : A → Type 0) (x : A) → P x → Gives (done x) P
Gives-done P x h = record { each = λ bytes place y next e. subst P (got_value x y place next e) h }

-- a part under conditions: none of them has refused it
pub Gives-checked : {A : Type 0} (d : Field) (r : Reader A) {test : A → Option Cause} → Gives (checked d r test) (λ x. test x ≡ None)
Gives-checked {A} d r {test} = record {
  each = λ bytes place y end e.
      let g = and_then_got (r bytes place) (λ x next. judged (test x) d x place next) y end e in
      let j = judged_got (test g.0) d g.0 place g.1 y end g.3 in
      subst (λ (x : A). test x ≡ None) j.1 j.0;
}

pub Gives-number_if : (d : Field) (w : ℕ) {test : ℕ → Option Cause} → Gives (checked d (number d w) test) (λ n. test n ≡ None)
Gives-number_if d w = Gives-checked d (number d w)

pub Gives-symbol_length : (field : Field) → Gives (symbol_length_at field) (λ len. length_test len ≡ None)
unfolding symbol_length_at
Gives-symbol_length field = Gives-number_if field 4

pub Gives-symbol_name : (field : Field) (claims : Claims) (len : ℕ) → Gives (symbol_name_at field claims len) (λ name. name_test claims name ≡ None)
unfolding symbol_name_at
Gives-symbol_name field claims len = Gives-checked field (string field len)

-- ---- what the conditions say that have refused nothing

new-go : (bytes taken : Bool) → cond bytes (cond taken (Some DuplicateName) None) (Some BadNameByte) ≡ None → taken ≡ false
new-go true true e = absurd cc
new-go true false e = refl
new-go false taken e = absurd cc

pub name_is_new : (claims : Claims) (name : List ℕ) → name_test claims name ≡ None → has_name claims name ≡ false
name_is_new claims name e = new-go (list_all is_name_byte name) (has_name claims name) e

in-go : (a b : Bool) → unless (a && b) ValueOut ≡ None → (a ≡ true) × (b ≡ true)
in-go true true e = (refl, refl)
in-go true false e = absurd cc
in-go false b e = absurd cc

pub value_is_in : (nprim value : ℕ) → value_test nprim value ≡ None → (1 ≤ value) × (value ≤ nprim)
value_is_in nprim value e =
    let p = in-go (nat_le 1 value) (nat_le value nprim) e in
    (leb-true 1 value p.0, leb-true value nprim p.1)

fresh-go : (a b taken : Bool) → cond (a && b) (cond taken (Some DuplicateValue) None) (Some ValueOut) ≡ None → (a ≡ true) × (b ≡ true) × (taken ≡ false)
fresh-go true true true e = absurd cc
fresh-go true true false e = (refl, refl, refl)
fresh-go true false taken e = absurd cc
fresh-go false b taken e = absurd cc

pub new_value_is_new : (nprim : ℕ) (claims : Claims) (value : ℕ) → new_value_test nprim claims value ≡ None → (1 ≤ value) × (value ≤ nprim) × (has_value claims value ≡ false)
new_value_is_new nprim claims value e =
    let p = fresh-go (nat_le 1 value) (nat_le value nprim) (has_value claims value) e in
    (leb-true 1 value p.0, leb-true value nprim p.1, p.2)

primary-go : (primary taken : Bool) → cond (primary && taken) (Some DuplicateValue) None ≡ None → primary ≡ true → taken ≡ false
primary-go true true e h = absurd cc
primary-go true false e h = refl
primary-go false taken e h = absurd cc

pub primary_value_is_new : (claims : Claims) (primary : Bool) (value : ℕ) → primary_value_test claims primary value ≡ None → primary ≡ true → has_value claims value ≡ false
primary_value_is_new claims primary value e h = primary-go primary (has_value claims value) e h
