-- What an object in memory was told to do: which of its calls fail, and how much a call moves.
use Rattle.std.specs.Prelude.{◌≡◌, ◌-◌, ◌^◌, ◌==◌, ℕ, List, [], ◌∷◌, ◌++◌, Option, MatchResult, IfOk, IfSome, IsTrue, length, min}
use Rattle.std.specs.List.{list_any}
use Rattle.std.specs.declared.result.Result.{Result}
use Rattle.se_outside.specs.declared.plan.Plan.{Plan}
use Rattle.se_outside.specs.Outside.{Counts}

-- The number of calls made, the calls that fail, counted from 1, and the bytes that one call
-- moves at most.
pub record Orders : Type 0 where
  pub calls : ℕ
  pub failing : List ℕ
  pub most : ℕ

abbrev pub orders : Plan → Orders
orders p = record { calls = p.calls; failing = p.failing.items; most = p.most }

-- told nothing, and not called yet
abbrev pub no_orders : Orders
no_orders = record { calls = 0; failing = []; most = 2 ^ 64 - 1 }

-- that call fails too
abbrev pub with_failing : Orders → ℕ → Orders
with_failing o call = record o { failing = o.failing ++ call ∷ [] }

-- a call moves at most that many bytes
abbrev pub with_most : Orders → ℕ → Orders
with_most o n = record o { most = n }

-- the last call is one of those that fail
abbrev pub IsDue : Orders → Type 0
IsDue o = IsTrue (list_any (λ call. call == o.calls) o.failing)

-- one call more
pub record Called (old new : Orders) : Type 0 where
  pub calls : Counts old.calls new.calls
  pub failing : new.failing ≡ old.failing
  pub most : new.most ≡ old.most

-- one fault more with each error, and none without
abbrev pub FaultsOnErr : {T E : Type 0} → ℕ → ℕ → Result T E → Type 0
FaultsOnErr before now result = MatchResult result (λ _. now ≡ before) (λ _. Counts before now)

-- a read gives as much as is left, has room and may be moved, where it is told what is left
abbrev pub GivesAll : {E : Type 0} → Option (List ℕ) → ℕ → ℕ → Result ℕ E → Type 0
GivesAll left room most result =
    IfOk result (λ k. IfSome left (λ xs. k ≡ min (min (length xs) room) most))
