-- The rules of a policy that is made, its initial SID, and its type map. The types stand in a ring, from 0 on.
use Rattle.std.specs.Prelude.{ℕ, ◌+◌, ◌%◌, List, [], ◌∷◌, ◌++◌, map}
use Rattle.std.specs.List.{flat_map, range_with_len}
use Rattle.pol_bitmap.specs.declared.Node.{Node}
use Rattle.pol_avtab.specs.declared.AvPart.TheVariants.{Data}
use Rattle.pol_avtab.specs.declared.AvRec.{AvRec}
use Rattle.pol_contexts.specs.declared.SidRec.{SidRec}
use Rattle.set_nodes.specs.SetNodes.{set_of}
use Rattle.pol_make.specs.MadeSymbols.{attribute_count, bare_range}

-- ---- the rules

-- the value of the type so many places after one of the ring of n
abbrev pub ring_value : ℕ → ℕ → ℕ → ℕ
ring_value n i places = (i + places) % n + 1

-- the number of the attribute, from 0 on, that a type of the ring has
abbrev pub attribute_of : ℕ → ℕ → ℕ
attribute_of n i = i % attribute_count n

-- an allow rule
abbrev pub allow : ℕ → ℕ → ℕ → ℕ → AvRec
allow source target class permissions = record { source = source; target = target; class = class; specified = 1; part = Data permissions }

-- the type after it is entered by a file of the second after it
abbrev pub transition_rules : ℕ → ℕ → List AvRec
transition_rules n i =
    allow (ring_value n i 0) (ring_value n i 1) 3 1
    ∷ allow (ring_value n i 0) (ring_value n i 0) 3 2
    ∷ allow (ring_value n i 0) (ring_value n i 2) 1 32
    ∷ allow (ring_value n i 0) (ring_value n i 1) 1 64
    ∷ []

-- reading and writing the files of the type so many places after it
abbrev pub file_rule : ℕ → ℕ → ℕ → AvRec
file_rule n i places = allow (ring_value n i 0) (ring_value n i places) 1 6

-- reading and writing the files of fifteen types
abbrev pub file_rules : ℕ → ℕ → List AvRec
file_rules n i = map (file_rule n i) (range_with_len 4 15)

-- reading the directories of one more type, by its attribute
abbrev pub attribute_rule : ℕ → ℕ → AvRec
attribute_rule n i = allow (n + 1 + attribute_of n i) (ring_value n i 19) 2 2

-- the rules of one type of the ring
unfoldable pub rules_of : ℕ → ℕ → List AvRec
rules_of n i = transition_rules n i ++ file_rules n i ++ attribute_rule n i ∷ []

unfoldable pub made_rules : ℕ → List AvRec
made_rules n = flat_map (rules_of n) (range_with_len 0 n)

-- ---- the initial SID

unfoldable pub made_sids : List SidRec
made_sids = record { sid = 1; context = record { user = 1; role = 2; type_value = 1; range = bare_range } } ∷ []

-- ---- the type map

-- the row of a type of the ring: itself and its attribute
abbrev pub type_row : ℕ → ℕ → List Node
type_row n i = set_of (i ∷ (n + attribute_of n i) ∷ [])

-- the row of the attribute of that bit: itself alone
abbrev pub attribute_row : ℕ → List Node
attribute_row bit = set_of (bit ∷ [])

unfoldable pub made_rows : ℕ → List (List Node)
made_rows n = map (type_row n) (range_with_len 0 n) ++ map attribute_row (range_with_len n (attribute_count n))
