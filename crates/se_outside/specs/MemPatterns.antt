-- What patterns in memory stand for.
use Rattle.std.specs.Prelude.{ℕ, List, [], Some, map, string_bytes}
use Rattle.se_outside.specs.declared.mem_patterns.MemPatterns.{MemPatterns}
use Rattle.se_outside.specs.Patterns.{PatternsState}
use Rattle.se_outside.specs.Plan.{Orders, orders, no_orders}

-- The texts asked, what it was told, and its refusals.
pub record MemPatternsState : Type 0 where
  pub texts : List (List ℕ)
  pub orders : Orders
  pub refusals : ℕ

abbrev pub mem_patterns : MemPatterns → MemPatternsState
mem_patterns p = record { texts = map string_bytes p.texts.items; orders = orders p.plan; refusals = p.refusals }

-- as anything that builds patterns tells of itself
abbrev pub told_patterns : MemPatternsState → PatternsState
told_patterns p = record { asked = Some p.texts; refusals = p.refusals }

-- asked nothing, told nothing
abbrev pub new_patterns : MemPatternsState
new_patterns = record { texts = []; orders = no_orders; refusals = 0 }

-- told that
abbrev pub with_plan : MemPatternsState → Orders → MemPatternsState
with_plan p orders = record p { orders = orders }
