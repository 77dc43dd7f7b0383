-- Expressions as lists of items, each operator after its operands: how many values stand at each item (libsepol's readers
-- of conditions and constraints count the depth of the stack in this way).
use Rattle.std.specs.Prelude.{◌≡◌, ℕ, ◌+◌, ◌-◌, ◌≤◌, ◌&&◌, not, ◌==◌, nat_le, nat_lt, if◌then◌else◌, Option, Some, None, List, [], ◌∷◌}
use Rattle.pol_fields.specs.declared.fault.Cause.{Cause}
use Rattle.pol_fields.specs.declared.fault.Cause.TheVariants.{BadKind, TooDeep, NotOneValue}

-- The values after an item that takes some of those before it: a leaf takes none and is a value itself, an operator makes
-- one value of its operands. So they are the leaves less the operators between two operands.
abbrev pub values_after : ℕ → ℕ → ℕ
values_after values operands = values + 1 - operands

-- The conditions on an item's number of operands, in their order: an operator has its operands, a leaf makes no more values
-- than the limit, and after the last item one value stands.
abbrev pub operands_test : ℕ → ℕ → ℕ → ℕ → Option Cause
operands_test limit left values operands =
    if nat_lt values operands then Some NotOneValue
    else if (operands == 0) && nat_le limit values then Some TooDeep
    else if (left == 0) && not (values_after values operands == 1) then Some NotOneValue
    else None

-- The conditions on an item's kind, in their order: it is one of those from the first to the last, and an item of it, which takes so
-- many operands, meets the conditions on their number.
abbrev pub kind_test : ℕ → ℕ → (ℕ → ℕ) → ℕ → ℕ → ℕ → ℕ → Option Cause
kind_test first last operands limit left values kind = if nat_le first kind && nat_le kind last then operands_test limit left values (operands kind) else Some BadKind

-- An expression has an item.
abbrev pub item_count_test : ℕ → Option Cause
item_count_test count = if count == 0 then Some NotOneValue else None

-- From so many values on, each operator has its operands, there are never more values than the limit, and one stands at the end.
abbrev pub IsPostfix : {A : Type 0} → (A → ℕ) → ℕ → ℕ → List A → Type 0
IsPostfix operands limit values [] = values ≡ 1
IsPostfix operands limit values (x ∷ xs) = (operands x ≤ values) × (values_after values (operands x) ≤ limit) × IsPostfix operands limit (values_after values (operands x)) xs

-- The items of an expression make one value.
abbrev pub IsExpression : {A : Type 0} → (A → ℕ) → ℕ → List A → Type 0
IsExpression operands limit items = IsPostfix operands limit 0 items
