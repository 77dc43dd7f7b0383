-- The ioctl numbers that are asked, and how those of a rule meet them (SETools' manual page of sesearch).
use Rattle.std.specs.Prelude.{ℕ, ◌+◌, ◌-◌, ◌*◌, ◌^◌, ◌==◌, nat_le, Bool, false, ◌&&◌, ◌||◌, Option, Some, None, List, [], ◌∷◌, is_some, length, unwrap_or, take, drop, if◌then◌else◌}
use Rattle.std.specs.List.{filter_map, list_any, list_all, position_from, range_with_len}
use Rattle.pol_avtab.specs.XPerms.{Numbers as NumbersOf, numbers_of, holds}
use Rattle.pol_read.specs.declared.RulePart.{RulePart}
use Rattle.pol_read.specs.declared.RulePart.TheVariants.{Numbers}
use Rattle.rule_criteria.specs.Elements.{elements_of}
use Rattle.rule_criteria.specs.declared.Criterion.{Criterion}
use Rattle.rule_criteria.specs.declared.Mode.{Mode}
use Rattle.rule_criteria.specs.declared.Mode.TheVariants.{Equal}
use Rattle.rule_tests.specs.declared.spans.Span.{Span}

-- ---- one number

-- the value of a hexadecimal digit: 0 to 9, A to F, a to f
abbrev pub digit : ℕ → Option ℕ
digit byte =
    if nat_le 48 byte && nat_le byte 57 then Some (byte - 48) else
    if nat_le 65 byte && nat_le byte 70 then Some (byte - 55) else
    if nat_le 97 byte && nat_le byte 102 then Some (byte - 87) else
    None

abbrev pub is_digit : ℕ → Bool
is_digit byte = is_some (digit byte)

-- the number that digits stand for: each counts sixteen times as much as the one behind it
unfoldable pub value_of : List ℕ → ℕ
value_of [] = 0
value_of (byte ∷ bytes) = unwrap_or (digit byte) 0 * 16 ^ length bytes + value_of bytes

-- a text without the 0x or 0X that it begins with
abbrev pub without_prefix : List ℕ → List ℕ
without_prefix [] = []
without_prefix (a ∷ []) = a ∷ []
without_prefix (a ∷ b ∷ digits) = if a == 48 && (b == 120 || b == 88) then digits else a ∷ b ∷ digits

-- the number of 16 bits that all bytes of a text stand for, as digits
abbrev pub number_of_all : List ℕ → Option ℕ
number_of_all digits = if list_all is_digit digits && nat_le (value_of digits) 65535 then Some (value_of digits) else None

-- there is one digit at least
abbrev pub number_of_digits : List ℕ → Option ℕ
number_of_digits [] = None
number_of_digits (byte ∷ bytes) = number_of_all (byte ∷ bytes)

-- the number that a text is: hexadecimal, of 16 bits, with or without 0x or 0X
unfoldable pub number_of : List ℕ → Option ℕ
number_of text = number_of_digits (without_prefix text)

-- ---- numbers and ranges

-- the numbers from one to another that is not below it
abbrev pub span_between : Option ℕ → Option ℕ → Option Span
span_between None high = None
span_between (Some low) None = None
span_between (Some low) (Some high) = if nat_le low high then Some (record { low = low; high = high }) else None

abbrev pub is_dash : ℕ → Bool
is_dash byte = byte == 45

-- an element of a list, by the place of its first `-`: a number, or two that are joined by it
abbrev pub span_at : List ℕ → Option ℕ → Option Span
span_at element None = span_between (number_of element) (number_of element)
span_at element (Some dash) = span_between (number_of (take dash element)) (number_of (drop (dash + 1) element))

unfoldable pub span_of : List ℕ → Option Span
span_of element = span_at element (position_from is_dash 0 element)

-- the spans that a text lists
abbrev pub spans_of : List ℕ → List Span
spans_of text = filter_map span_of (elements_of text)

-- ---- the numbers of a rule

abbrev pub is_within : ℕ → Span → Bool
is_within number span = nat_le span.low number && nat_le number span.high

-- a number is one of those asked
abbrev pub is_asked : List Span → ℕ → Bool
is_asked spans number = list_any (is_within number) spans

-- a rule has each number of a span
abbrev pub holds_span : NumbersOf → Span → Bool
holds_span numbers span = list_all (holds numbers) (range_with_len span.low (span.high + 1 - span.low))

-- The numbers of a rule and those asked: they are equal, or they share one.
abbrev pub compare_numbers : Mode → List Span → NumbersOf → Bool
compare_numbers Equal spans numbers = list_all (is_asked spans) (numbers_of numbers) && list_all (holds_span numbers) spans
compare_numbers other spans numbers = list_any (is_asked spans) (numbers_of numbers)

-- a rule without extended permissions has none
abbrev pub meets_numbers : Criterion → RulePart → Bool
meets_numbers criterion (Numbers numbers) = compare_numbers criterion.mode (spans_of criterion.text) numbers
meets_numbers criterion other = false
