-- The entries of two lists, by their numbers.
use Rattle.std.proofs.Common.{◌≡◌, ℕ, ◌+◌, ◌-◌, ◌<◌, ◌≤◌, List, ◌++◌, length, length-append, refl, arith}
use Rattle.std.proofs.lemmas.List.{get_or_append_left, get_or-append_right}
use Rattle.diff_entries.specs.Entries.{Entry, entry_at}

module _ (first second : List Entry) where
  pub both_counted : length (first ++ second) ≡ length first + length second
  both_counted = length-append first second

  pub in_first : (number : ℕ) → number < length first → entry_at (first ++ second) number ≡ entry_at first number
  in_first number lt = get_or_append_left first second _ number lt

  pub in_second : (number count : ℕ) → count ≡ length first → count ≤ number → entry_at (first ++ second) number ≡ entry_at second (number - count)
  in_second number count is le = rw is (get_or-append_right first second (length first) number _ refl (omega (arith, le, is)))

  pub within_second : (number count : ℕ) → count ≡ length first → count ≤ number → number < length (first ++ second) → number - count < length second
  within_second number count is le lt = omega (arith, lt, le, is, length-append first second)
