-- What the records of a table name, whatever else they say: what `TableNames` is asked for.
use Rattle.std.specs.Prelude.{ℕ, Bool, List, map}
use Rattle.pol_cursor.specs.References.{Placed}
use Rattle.pol_symtab.specs.SymbolTables.{Table}
use Rattle.pol_symtab.specs.declared.symbol_names.SymbolName.{SymbolName}

-- a name, the value that it names, and whether it is primary
pub record Naming : Type 0 where
  pub name : List ℕ
  pub value : ℕ
  pub primary : Bool

abbrev pub its_name : Naming → List ℕ
its_name n = n.name

abbrev pub its_value : Naming → ℕ
its_value n = n.value

abbrev pub is_its_primary : Naming → Bool
is_its_primary n = n.primary

-- as the code has it; its record's place is left out
abbrev pub naming : SymbolName → Placed Naming
naming symbol = record { place = 0; value = record { name = symbol.name.now; value = symbol.value; primary = symbol.primary } }

-- that of a record
abbrev pub naming_of : {A : Type 0} → (A → List ℕ) → (A → Bool) → (A → ℕ) → Placed A → Placed Naming
naming_of name_of is_primary value_of r = record { place = 0; value = record { name = name_of r.value; value = value_of r.value; primary = is_primary r.value } }

-- those of a table
abbrev pub namings_of : {A : Type 0} → (A → List ℕ) → (A → Bool) → (A → ℕ) → Table A → Table Naming
namings_of name_of is_primary value_of table = record { nprim = table.nprim; records = map (naming_of name_of is_primary value_of) table.records }
