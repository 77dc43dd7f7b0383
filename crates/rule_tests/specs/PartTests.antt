-- What rules are compared with in place of names of permissions and texts of numbers: bits and spans.
use Rattle.std.specs.Prelude.{◌≡◌, ℕ, Bool, false, not, ◌&&◌, ◌==◌, bit_and, bit_or, Option, Some, None, List, [], ◌∷◌, map, codes, slice_get}
use Rattle.std.specs.Str.{bytes_eq}
use Rattle.std.specs.List.{filter, fold, list_any, list_all}
use Rattle.pol_cursor.specs.References.{Placed}
use Rattle.pol_fields.specs.declared.TableKind.TheVariants.{Classes}
use Rattle.pol_commons.specs.declared.PermissionRec.{PermissionRec}
use Rattle.pol_commons.specs.Permissions.{bit_of}
use Rattle.pol_classes.specs.declared.ClassRec.{ClassRec}
use Rattle.pol_symbols.specs.PolicySymbols.{index_in, permissions_of}
use Rattle.pol_symbols.specs.declared.Symbols.{Symbols}
use Rattle.pol_read.specs.declared.RulePart.{RulePart}
use Rattle.pol_read.specs.declared.RulePart.TheVariants as parts
use Rattle.rule_criteria.specs.Elements.{elements_of}
use Rattle.rule_criteria.specs.declared.Criterion.{Criterion}
use Rattle.rule_criteria.specs.declared.Mode.{Mode}
use Rattle.rule_criteria.specs.declared.Mode.TheVariants.{Equal, Subset}
use Rattle.rule_tests.specs.declared.class_bits.ClassBits.{ClassBits}
use Rattle.rule_tests.specs.declared.permission_test.PermissionTest.{PermissionTest}
use Rattle.rule_tests.specs.declared.number_test.NumberTest.{NumberTest}
use Rattle.rule_tests.specs.AskedPermissions.{compare_names, is_one_of}
use Rattle.rule_tests.specs.AskedNumbers.{compare_numbers, spans_of}

-- ---- permissions

abbrev pub shares_bit : ℕ → ℕ → Bool
shares_bit mask bits = not (bit_and bits mask == 0)

-- some bits, and those of permissions
abbrev pub bits_behind : ℕ → List PermissionRec → ℕ
bits_behind bits permissions = fold (λ mask permission. bit_or mask (bit_of permission)) bits permissions

-- the bits of the permissions of a name
abbrev pub bits_named : List ℕ → List PermissionRec → ℕ
bits_named name permissions = bits_behind 0 (filter (λ permission. bytes_eq name permission.name) permissions)

-- the bits of the permissions of no such name
abbrev pub bits_of_others : List (List ℕ) → List PermissionRec → ℕ
bits_of_others names permissions = bits_behind 0 (filter (λ permission. not (is_one_of names permission.name)) permissions)

pub record IsClassBits (names : List (List ℕ)) (permissions : List PermissionRec) (bits : ClassBits) : Type 0 where
  pub named : bits.named.items ≡ map (λ name. bits_named name permissions) names
  pub others : bits.others ≡ bits_of_others names permissions

abbrev pub meets_bits : Mode → ClassBits → ℕ → Bool
meets_bits Equal bits mask = list_all (shares_bit mask) bits.named.items && not (shares_bit mask bits.others)
meets_bits Subset bits mask = list_all (shares_bit mask) bits.named.items
meets_bits other bits mask = list_any (shares_bit mask) bits.named.items

-- the bits of the classes, in file order
abbrev pub AreClassBits : Symbols → List (List ℕ) → List ClassBits → Type 0
AreClassBits symbols names classes = (i : ℕ) (class : Placed ClassRec) → slice_get symbols.classes.records i ≡ Some class → (bits : ClassBits) × (slice_get classes i ≡ Some bits) × IsClassBits names (permissions_of symbols class.value) bits

abbrev pub meets_bits_found : Mode → Option ClassBits → ℕ → Bool
meets_bits_found mode None mask = false
meets_bits_found mode (Some bits) mask = meets_bits mode bits mask

abbrev pub bits_found : List ClassBits → Option ℕ → Option ClassBits
bits_found classes None = None
bits_found classes (Some number) = slice_get classes number

abbrev pub meets_mask : Symbols → PermissionTest → ℕ → ℕ → Bool
meets_mask symbols test class mask = meets_bits_found test.mode (bits_found test.classes.items (index_in symbols Classes class)) mask

abbrev pub permissions_test : Symbols → PermissionTest → ℕ → RulePart → Bool
permissions_test symbols test class (parts.Perms mask) = meets_mask symbols test class mask
permissions_test symbols test class (parts.Numbers numbers) = test.ioctl
permissions_test symbols test class other = false

pub record IsPermissionTest (symbols : Symbols) (criterion : Criterion) (test : PermissionTest) : Type 0 where
  pub mode : test.mode ≡ criterion.mode
  pub ioctl : test.ioctl ≡ compare_names criterion.mode (elements_of criterion.text) (codes "ioctl" ∷ [])
  pub classes : AreClassBits symbols (elements_of criterion.text) test.classes.items

-- ---- numbers

abbrev pub numbers_test : NumberTest → RulePart → Bool
numbers_test test (parts.Numbers numbers) = compare_numbers test.mode test.spans.items numbers
numbers_test test other = false

pub record IsNumberTest (criterion : Criterion) (test : NumberTest) : Type 0 where
  pub mode : test.mode ≡ criterion.mode
  pub spans : test.spans.items ≡ spans_of criterion.text
