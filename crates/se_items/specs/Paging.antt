-- Which items of a listing are asked for: a listing ends at its item 999,999,999,999,999,999, and of it so many are left out at the
-- front, and at most so many are given.
use Rattle.std.specs.Prelude.{◌+◌, ℕ, List, Option, Some, None, min, take, drop}
use Rattle.se_items.specs.declared.window.TheConstants.{MOST_ITEMS}

-- the most items of a listing
abbrev pub most_items : ℕ
most_items = MOST_ITEMS

-- at most so many items, where a limit is asked for
abbrev pub limited : {A : Type 0} → Option ℕ → List A → List A
limited None items = items
limited (Some count) items = take count items

-- the items of a listing that are asked for
unfoldable pub page : {A : Type 0} → ℕ → Option ℕ → List A → List A
page from limit items = limited limit (drop from (take MOST_ITEMS items))

-- before which item that part ends, where there are so many
abbrev pub end_of : ℕ → Option ℕ → ℕ
end_of from None = MOST_ITEMS
end_of from (Some count) = min (from + count) MOST_ITEMS
