-- Symbol tables, how they are read, and the searches through their records that the look-ups answer.
use Rattle.std.specs.Prelude.{ℕ, ◌<◌, ◌^◌, ◌++◌, length, Bool, ◌&&◌, Option, List, nat_eq, nat_le, option_map}
use Rattle.std.specs.List.{find, position, count_by, flat_map, AllByRecursion}
use Rattle.std.specs.Str.{bytes_eq}
use Rattle.std.specs.Ordering.{is_lt, nat_cmp}
use Rattle.std.specs.Cmp.Lexicographic.{slice_cmp}
use Rattle.pol_fields.specs.declared.fault.Cause.{Cause}
use Rattle.pol_fields.specs.declared.fault.Cause.TheVariants.{TableTooLarge}
use Rattle.pol_fields.specs.declared.fields.TheConstants.{TABLE_NPRIM, TABLE_NEL}
use Rattle.pol_cursor.specs.Outcome.{Reader, ◌>>=◌, done}
use Rattle.pol_cursor.specs.Parts.{number, number_if, unless, list_of}
use Rattle.pol_cursor.specs.Spelling.{bytes_of}
use Rattle.pol_cursor.specs.References.{Placed, values_of}
use Rattle.pol_cursor.specs.Contexts.{records_after}
use Rattle.pol_symtab.specs.Claims.{no_claims}
use Rattle.pol_symtab.specs.declared.taken.TableContext.{TableContext}
use Rattle.pol_symtab.specs.declared.table_head.TableHead.{TableHead}

-- the greatest value that a table may declare, and its records in file order, each with its place
pub record Table (A : Type 0) : Type 0 where
  pub nprim : ℕ
  pub records : List (Placed A)

-- ---- how a table is read (libsepol's policydb_read, the loop over the symbol tables)

-- a table declares at most 65,535 values (this project's profile)
abbrev pub nprim_test : ℕ → Option Cause
nprim_test nprim = unless (nat_le nprim 65535) TableTooLarge

-- the two numbers before the records: the greatest value, and how many records there are
unfoldable pub table_head_at : Reader TableHead
table_head_at = do
  nprim ← number_if TABLE_NPRIM 4 nprim_test
  nel ← number TABLE_NEL 4
  done (record { nprim = nprim; nel = nel })

-- so many records, each under the context that the ones before it made
unfoldable pub table_records_at : {S A : Type 0} → (S → Reader A) → (S → A → S) → ℕ → ℕ → S → Reader (Table A)
table_records_at record_at after nprim nel context = do
  records ← records_after record_at after nel context
  done (record { nprim = nprim; records = records })

-- a whole table, whose first record is read under the context that its nprim starts
unfoldable pub table_at : {S A : Type 0} → (S → Reader A) → (S → A → S) → (ℕ → S) → Reader (Table A)
table_at record_at after start = do
  head ← table_head_at
  table_records_at record_at after head.nprim head.nel (start head.nprim)

-- the context of the first record, where the records are read under nprim and the claims of the ones before them alone
abbrev pub table_start : ℕ → TableContext
table_start nprim = record { nprim = nprim; taken = no_claims }

-- ---- how a table is written

-- a table without the places of its records
pub record BareTable (A : Type 0) : Type 0 where
  pub nprim : ℕ
  pub records : List A

abbrev pub bare : {A : Type 0} → Table A → BareTable A
bare table = record { nprim = table.nprim; records = values_of table.records }

-- it is read as the table is
unfoldable pub bare_table_at : {S A : Type 0} → (S → Reader A) → (S → A → S) → (ℕ → S) → Reader (BareTable A)
bare_table_at record_at after start = do
  head ← table_head_at
  records ← list_of (λ left context. record_at context) after head.nel (start head.nprim)
  done (record { nprim = head.nprim; records = records })

abbrev pub spell_table : {A : Type 0} → (A → List ℕ) → BareTable A → List ℕ
spell_table spell table = bytes_of 4 table.nprim ++ bytes_of 4 (length table.records) ++ flat_map spell table.records

pub record TableFits {A : Type 0} (fits : A → Type 0) (table : BareTable A) : Type 0 where
  pub nprim : table.nprim < 2 ^ 32
  pub nel : length table.records < 2 ^ 32
  pub records : AllByRecursion fits table.records

-- ---- searches through the records

-- a record has the name
abbrev pub has_the_name : {A : Type 0} → (A → List ℕ) → List ℕ → Placed A → Bool
has_the_name name_of name r = bytes_eq (name_of r.value) name

-- a record declares the value: it is primary, and the value is its own
abbrev pub declares : {A : Type 0} → (A → Bool) → (A → ℕ) → ℕ → Placed A → Bool
declares is_primary value_of value r = is_primary r.value && nat_eq (value_of r.value) value

-- the place in the list of the first record of a name, an alias or not
unfoldable pub index_named : {A : Type 0} → (A → List ℕ) → List (Placed A) → List ℕ → Option ℕ
index_named name_of records name = position (has_the_name name_of name) records

-- the value of that record (libsepol's hashtab_search in the table's hash table)
unfoldable pub value_named : {A : Type 0} → (A → List ℕ) → (A → ℕ) → List (Placed A) → List ℕ → Option ℕ
value_named name_of value_of records name = option_map (λ r. value_of r.value) (find (has_the_name name_of name) records)

-- the place in the list of the primary record of a value (libsepol's type_val_to_struct and its like)
unfoldable pub primary_index : {A : Type 0} → (A → Bool) → (A → ℕ) → List (Placed A) → ℕ → Option ℕ
primary_index is_primary value_of records value = position (declares is_primary value_of value) records

-- the name of that record (libsepol's sym_val_to_name)
unfoldable pub primary_name : {A : Type 0} → (A → List ℕ) → (A → Bool) → (A → ℕ) → List (Placed A) → ℕ → Option (List ℕ)
primary_name name_of is_primary value_of records value = option_map (λ r. name_of r.value) (find (declares is_primary value_of value) records)

-- ---- the order of names

-- a name comes before another in the order of their bytes
abbrev pub is_below : List ℕ → List ℕ → Bool
is_below a b = is_lt (slice_cmp nat_cmp a b)

-- how many primary names of the records are below a name
abbrev pub names_below : {A : Type 0} → (A → List ℕ) → (A → Bool) → List (Placed A) → List ℕ → ℕ
names_below name_of is_primary records name = count_by (λ r. is_primary r.value && is_below (name_of r.value) name) records

-- the rank of a declared value: how many primary names are below its own
unfoldable pub rank_of : {A : Type 0} → (A → List ℕ) → (A → Bool) → (A → ℕ) → List (Placed A) → ℕ → Option ℕ
rank_of name_of is_primary value_of records value = option_map (names_below name_of is_primary records) (primary_name name_of is_primary value_of records value)
