-- Sets of values of a symbol table, as the names that they stand for (libsepol's ebitmaps of values, which SETools prints as
-- sets of names).
use Rattle.std.specs.Prelude.{ℕ, ◌+◌, ◌^◌, Option, Some, None, List, nat_lt, if◌then◌else◌}
use Rattle.std.specs.List.{filter_map}
use Rattle.pol_fields.specs.declared.TableKind.{TableKind}
use Rattle.pol_symbols.specs.declared.symbols.Symbols.{Symbols}
use Rattle.pol_symbols.specs.PolicySymbols.{name_in}
use Rattle.pol_texts.specs.NameLists.{in_order}

-- the names of those of these values that a primary record declares, in the order of their bytes
unfoldable pub names_of_values : Symbols → TableKind → List ℕ → List (List ℕ)
names_of_values symbols table values = in_order (filter_map (name_in symbols table) values)

-- the value that a bit stands for: bit v - 1 stands for the value v, which has 32 bits
abbrev pub value_of_bit : ℕ → Option ℕ
value_of_bit bit = if nat_lt (bit + 1) (2 ^ 32) then Some (bit + 1) else None

-- the values that bits stand for, in the order of the bits
unfoldable pub values_of_bits : List ℕ → List ℕ
values_of_bits bits = filter_map value_of_bit bits

-- the names that bits stand for, where a primary record declares the value, in the order of their bytes
abbrev pub names_of_bits : Symbols → TableKind → List ℕ → List (List ℕ)
names_of_bits symbols table bits = names_of_values symbols table (values_of_bits bits)
