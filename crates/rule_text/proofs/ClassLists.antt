-- The permissions of the class of a value by name, from those of its record.
use Rattle.std.proofs.Common.{◌≡◌, ℕ, ◌<◌, true, Option, Some, None, List, [], length, get_or, slice_get, inl, inr, refl, sym, subst, arith}
use Rattle.std.proofs.lemmas.Option.{slice_get_cases}
use Rattle.pol_cursor.specs.References.{Placed}
use Rattle.pol_symtab.specs.SymbolTables.{primary_index}
use Rattle.pol_commons.specs.declared.PermissionRec.{PermissionRec}
use Rattle.pol_classes.specs.declared.ClassRec.{ClassRec}
use Rattle.pol_symbols.specs.declared.Symbols.{Symbols}
use Rattle.pol_symbols.specs.PolicySymbols.{permissions_of, permissions_found, permissions_in_class}
use Rattle.pol_symbols.proofs.SymbolSearch.{primary_is_within, primary_found, primary_missing}
use Rattle.info_lines.specs.PermissionSets.{permissions_text}
use Rattle.rule_text.specs.Inner.ClassPermissions.{shown_text, AreByName, AreOfClasses}

-- the number of the record of a class
abbrev pub class_number : Symbols → ℕ → Option ℕ
class_number symbols value = primary_index (λ (class : ClassRec). true) (λ class. class.value) symbols.classes.records value

pub number_is_within : (symbols : Symbols) (value i : ℕ) → class_number symbols value ≡ Some i → i < length symbols.classes.records
number_is_within symbols value i e = primary_is_within (λ (class : ClassRec). true) (λ class. class.value) symbols.classes.records value i e

-- by the record of its class
pub by_record : (symbols : Symbols) (value i : ℕ) (class : Placed ClassRec) (sorted : List PermissionRec) → class_number symbols value ≡ Some i → slice_get symbols.classes.records i ≡ Some class
    → AreByName (permissions_of symbols class.value) sorted → AreByName (permissions_in_class symbols value) sorted
by_record symbols value i class sorted e at h =
    subst (λ (found : Option (Placed ClassRec)). AreByName (permissions_found symbols found) sorted) (sym (primary_found (λ (c : ClassRec). true) (λ c. c.value) symbols.classes.records value i class e at)) h

-- by the lists of all classes
pub by_list : (symbols : Symbols) (lists : List (List PermissionRec)) (value i : ℕ) → AreOfClasses symbols lists → class_number symbols value ≡ Some i → AreByName (permissions_in_class symbols value) (get_or lists i [])
by_list symbols lists value i h e =
    let within : i < length symbols.classes.records = number_is_within symbols value i e in
    elim (slice_get_cases symbols.classes.records i).1 [
      | inl found ↦ by_record symbols value i found.0 (get_or lists i []) e found.2 (h.each i found.0 found.2)
      | inr past ↦ absurd (omega (arith, past.0))
    ]

-- where no class has the value
pub by_none : (symbols : Symbols) (value : ℕ) → class_number symbols value ≡ None → AreByName (permissions_in_class symbols value) []
unfolding shown_text permissions_text
by_none symbols value e =
    subst (λ (found : Option (Placed ClassRec)). AreByName (permissions_found symbols found) []) (sym (primary_missing (λ (c : ClassRec). true) (λ c. c.value) symbols.classes.records value e)) (λ mask. refl)
