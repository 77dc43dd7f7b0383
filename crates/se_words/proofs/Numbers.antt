-- Numbers of 1 to 18 decimal digits are parsed whole.
use Rattle.std.proofs.Common.{◌≡◌, ◌<◌, ◌≤◌, ◌&&◌, ℕ, List, length, true, false, Bool, Result, Ok, nat_lt, nat_le, refl, rules, arith}
use Rattle.std.specs.Char.{is_ascii_digit}
use Rattle.std.specs.List.{list_all}
use Rattle.std.specs.Str.Parse.{ParsesUnsigned, digits_value}
use Rattle.std.proofs.lemmas.Str.Parse.{IsNumeralModel, digits_value_short, numerals_by_value, parse_gives}
use Rattle.se_words.specs.Values.{is_number}

abbrev AreDigits : List ℕ → Type 0
AreDigits digits = list_all is_ascii_digit digits ≡ true

own : IsNumeralModel AreDigits (digits_value 10)
own = numerals_by_value AreDigits (search rules)

both : (a b : Bool) → (a && b) ≡ true → (a ≡ true) × (b ≡ true)
both true b is = (refl, is)
both false b is = absurd (cc)

pub parsed : {E : Type 0} (text : List ℕ) (result : Result ℕ E) → ParsesUnsigned 64 10 text result → is_number text ≡ true → result ≡ Ok (digits_value 10 text)
parsed text result parses number =
    let parts = both (nat_lt 0 (length text) && nat_le (length text) 18) (list_all is_ascii_digit text) number in
    let lengths = both (nat_lt 0 (length text)) (nat_le (length text) 18) parts.0 in
    let some : 0 < length text = grind (arith, lengths.0) in
    let short : length text ≤ 18 = grind (arith, lengths.1) in
    parse_gives own 64 text result parses parts.1 some (omega (arith, digits_value_short own text 18 parts.1 short))
