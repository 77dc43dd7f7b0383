-- What a summary counts besides rules.
use Rattle.std.specs.Prelude.{ℕ, ◌+◌, Bool, List, length}
use Rattle.std.specs.List.{count_by, sum_by}
use Rattle.pol_cursor.specs.References.{Placed}
use Rattle.pol_bitmap.specs.Nodes.{bits_of}
use Rattle.pol_datums.specs.declared.TypeRec.{TypeRec}
use Rattle.pol_datums.specs.declared.SensitivityRec.{SensitivityRec}
use Rattle.pol_datums.specs.declared.CategoryRec.{CategoryRec}
use Rattle.pol_datums.specs.declared.Flavour.{Flavour}
use Rattle.pol_datums.specs.Flags.{is_primary_flag}
use Rattle.pol_datums.specs.TypeRecord.{flavour_of}
use Rattle.pol_classes.specs.declared.ClassRec.{ClassRec}
use Rattle.pol_genfs.specs.declared.GenfsRec.{GenfsRec}
use Rattle.pol_contexts.specs.declared.Contexts.{Contexts}
use Rattle.pol_file.specs.declared.Parts.{Parts}
use Rattle.pol_expand.specs.Flavours.{is_flavour}
use Rattle.info_symbols.specs.declared.TypeSet.TheVariants.{PermissiveTypes}
use Rattle.info_symbols.specs.TypeListings.{set_numbers}

-- ---- symbols: the primary records, without aliases

-- the types that are no attributes, or the attributes
abbrev pub flavour_count : Flavour → List (Placed TypeRec) → ℕ
flavour_count flavour records = count_by (λ t. is_flavour flavour (flavour_of t.value.properties)) records

-- how many records of a table are no aliases
abbrev pub primary_count : {A : Type 0} → (A → Bool) → List (Placed A) → ℕ
primary_count is_primary records = count_by (λ r. is_primary r.value) records

abbrev pub sensitivity_count : List (Placed SensitivityRec) → ℕ
sensitivity_count levels = primary_count (λ level. is_primary_flag level.isalias) levels

abbrev pub category_count : List (Placed CategoryRec) → ℕ
category_count categories = primary_count (λ category. is_primary_flag category.isalias) categories

-- ---- constraints of all classes

abbrev pub constraint_count : List (Placed ClassRec) → ℕ
constraint_count classes = sum_by (λ class. length class.value.constraints) classes

abbrev pub validatetrans_count : List (Placed ClassRec) → ℕ
validatetrans_count classes = sum_by (λ class. length class.value.validatetrans) classes

-- ---- contexts and bits

-- the paths of all file systems
abbrev pub path_count : List (Placed GenfsRec) → ℕ
path_count systems = sum_by (λ system. length system.value.paths) systems

-- the addresses of IPv4 and of IPv6
abbrev pub node_count : Contexts → ℕ
node_count contexts = length contexts.node + length contexts.node6

-- the types, no attributes, that are listed as permissive
abbrev pub permissive_count : Parts → ℕ
permissive_count policy = length (set_numbers policy PermissiveTypes)

-- each bit is a capability
abbrev pub capability_count : Parts → ℕ
capability_count policy = length (bits_of policy.front.capabilities)
