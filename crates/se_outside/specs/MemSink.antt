-- What a sink in memory stands for.
use Rattle.std.specs.Prelude.{◌≡◌, ◌-◌, ℕ, List, [], Some, length, min}
use Rattle.se_outside.specs.declared.mem_sink.MemSink.{MemSink}
use Rattle.se_outside.specs.Outside.{SinkState}
use Rattle.se_outside.specs.Plan.{Orders, orders, no_orders}

-- The bytes that it holds, how many it holds at most, what it was told, and its faults.
pub record MemSinkState : Type 0 where
  pub bytes : List ℕ
  pub room : ℕ
  pub orders : Orders
  pub faults : ℕ

abbrev pub mem_sink : MemSink → MemSinkState
mem_sink s = record { bytes = s.bytes.items; room = s.room; orders = orders s.plan; faults = s.faults }

-- as any sink tells of itself
abbrev pub told_sink : MemSinkState → SinkState
told_sink s = record { written = Some s.bytes; faults = s.faults }

-- a sink of that room that holds nothing and was told nothing
abbrev pub new_sink : ℕ → MemSinkState
new_sink room = record { bytes = []; room = room; orders = no_orders; faults = 0 }

abbrev pub with_orders : MemSinkState → Orders → MemSinkState
with_orders s orders = record s { orders = orders }

-- no room is left
abbrev pub IsFull : MemSinkState → Type 0
IsFull s = length s.bytes ≡ s.room

-- how much of a piece a write takes: all that there is room for and that may be moved
abbrev pub taken_of : MemSinkState → List ℕ → ℕ
taken_of s piece = min (min (length piece) (s.room - length s.bytes)) s.orders.most
