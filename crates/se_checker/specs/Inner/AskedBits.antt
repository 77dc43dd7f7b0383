-- The permissions that are asked of the rules of a class, as bits. It serves the code alone.
use Rattle.std.specs.Prelude.{ℕ, Bool, true, false, ◌&&◌, bit_or, Option, Some, None, List, map, option_map, slice_get}
use Rattle.std.specs.List.{filter, fold, list_any}
use Rattle.pol_cursor.specs.References.{Placed}
use Rattle.pol_commons.specs.declared.PermissionRec.{PermissionRec}
use Rattle.pol_commons.specs.Permissions.{bit_of, mask_has, of_name}
use Rattle.pol_classes.specs.declared.ClassRec.{ClassRec}
use Rattle.pol_symbols.specs.declared.Symbols.{Symbols}
use Rattle.pol_symbols.specs.PolicySymbols.{permissions_of}
use Rattle.rule_tests.specs.PartTests.{shares_bit}
use Rattle.value_groups.specs.Among.{is_among}
use Rattle.se_checker.specs.declared.allow_rules.AllowRule.{AllowRule}
use Rattle.se_checker.specs.declared.asked.AskedBits.{AskedBits}
use Rattle.se_checker.specs.declared.asked.AskedBits.TheVariants.{Nothing, Anything, Bits}
use Rattle.se_checker.specs.Verdicts.{Asked, asks_class, found_passes}

-- ---- bits

-- some bits, and that of a permission that was found
abbrev pub with_found : ℕ → Option PermissionRec → ℕ
with_found bits None = bits
with_found bits (Some permission) = bit_or bits (bit_of permission)

-- some bits, and those of the permissions of some names
abbrev pub bits_named : List PermissionRec → ℕ → List (List ℕ) → ℕ
bits_named permissions bits names = fold (λ bits name. with_found bits (of_name name permissions)) bits names

-- a mask has what is asked for
abbrev pub has_asked : AskedBits → ℕ → Bool
has_asked Nothing mask = false
has_asked Anything mask = true
has_asked (Bits bits) mask = shares_bit mask bits

-- ---- classes

-- a mask has a permission that is asked for among some
abbrev pub asks_among : List PermissionRec → Option (List (List ℕ)) → ℕ → Bool
asks_among permissions None mask = true
asks_among permissions (Some names) mask = list_any (λ name. found_passes (mask_has mask) (option_map (λ permission. permission.value) (of_name name permissions))) names

-- a rule of a class that gives the permissions of a mask has what is asked for
abbrev pub asks_in_class : Symbols → Asked → ClassRec → ℕ → Bool
asks_in_class symbols asked class mask = asks_class symbols asked.class class.value && asks_among (permissions_of symbols class) asked.perms mask

-- ---- rules

-- a rule has what is asked for, and either end among some values
abbrev pub is_passing : (ℕ → Bool) → List ℕ → List ℕ → AllowRule → Bool
is_passing asks sources targets rule = (asks rule.mask && is_among sources rule.source) && is_among targets rule.target

-- so do these rules, by their numbers
abbrev pub numbers_passing : (ℕ → Bool) → List ℕ → List ℕ → List AllowRule → List ℕ
numbers_passing asks sources targets rules = map (λ rule. rule.number) (filter (is_passing asks sources targets) rules)

-- the class of a place has what is asked for
abbrev pub asks_found : Symbols → Asked → Option (Placed ClassRec) → ℕ → Bool
asks_found symbols asked None mask = false
asks_found symbols asked (Some class) mask = asks_in_class symbols asked class.value mask

abbrev pub asks_at : Symbols → Asked → ℕ → ℕ → Bool
asks_at symbols asked place mask = asks_found symbols asked (slice_get symbols.classes.records place) mask
