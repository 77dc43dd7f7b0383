-- The declared sources of a datum, as they are found bit by bit.
use Rattle.std.specs.Prelude.{ℕ, ◌+◌, Option, Some, None, List, if◌then◌else◌}
use Rattle.std.specs.List.{flat_map}
use Rattle.std.specs.Option.{option_to_list}
use Rattle.pol_bitmap.specs.declared.node.Node.{Node}
use Rattle.pol_bitmap.specs.Nodes.{has_bit}

-- the value that a bit stands for, if it is declared
abbrev pub source_of_bit : List Node → ℕ → Option ℕ
source_of_bit declared bit = if has_bit declared (bit + 1) then Some (bit + 1) else None

-- the declared values of some bits
abbrev pub found_sources : List Node → List ℕ → List ℕ
found_sources declared bits = flat_map (λ bit. option_to_list (source_of_bit declared bit)) bits
