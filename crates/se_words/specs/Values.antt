-- What the text of a value is: a number within a range, a list, or a list of states.
use Rattle.std.specs.Prelude.{ℕ, ◌==◌, ◌-◌, List, length, take, codes, Bool, is_some, nat_eq, nat_lt, nat_le, ◌&&◌, ◌||◌, Option, Some, None, if◌then◌else◌}
use Rattle.std.specs.List.{ends_with, list_all, slice_split}
use Rattle.std.specs.Char.{is_ascii_digit}
use Rattle.std.specs.Str.Parse.{digits_value}

-- a number is 1 to 18 decimal digits; zeros may stand first
abbrev pub is_number : List ℕ → Bool
is_number text = nat_lt 0 (length text) && nat_le (length text) 18 && list_all is_ascii_digit text

abbrev pub is_within : ℕ → ℕ → ℕ → Bool
is_within least most number = nat_le least number && nat_le number most

-- the number that a text is, if it is one from the least to the most
unfoldable pub number_within : ℕ → ℕ → List ℕ → Option ℕ
number_within least most text = if is_number text && is_within least most (digits_value 10 text) then Some (digits_value 10 text) else None

abbrev pub is_comma : ℕ → Bool
is_comma byte = byte == 44

-- a list that is parted by commas has no empty element
unfoldable pub is_comma_list : List ℕ → Bool
is_comma_list text = list_all (λ element. nat_lt 0 (length element)) (slice_split is_comma text)

-- what stands before the ending of a text, if it has that and something before it
unfoldable pub name_before : List ℕ → List ℕ → Option (List ℕ)
name_before ending text =
    if ends_with nat_eq text ending && nat_lt (length ending) (length text) then Some (take (length text - length ending) text) else None

-- a state is the name of a boolean, which is not empty, and `=on` or `=off` behind it
abbrev pub is_state : List ℕ → Bool
is_state text = is_some (name_before (codes "=on") text) || is_some (name_before (codes "=off") text)

-- each element of the list that is parted by commas is a state
unfoldable pub is_state_list : List ℕ → Bool
is_state_list text = list_all is_state (slice_split is_comma text)
