-- Record 16: an access vector, which is one rule (libsepol's avtab_read_item).
use Rattle.std.specs.Prelude.{◌≡◌, ℕ, ◌+◌, ◌^◌, ◌<◌, ◌≤◌, Bool, true, false, not, ◌==◌, ◌&&◌, ◌||◌, Option, Some, None, List, [], ◌∷◌, ◌++◌, length, take, drop, bit_and, nat_le, option_map, if◌then◌else◌}
use Rattle.pol_fields.specs.declared.limits.TheConstants.{MAX_POLICY_BYTES}
use Rattle.pol_fields.specs.declared.fault.Cause.{Cause}
use Rattle.pol_fields.specs.declared.fault.Cause.TheVariants.{BadSpecified, BadExtendedKind, ExtendedInCondition, DuplicateRule}
use Rattle.pol_fields.specs.declared.table_kind.TableKind.TheVariants.{Types, Classes}
use Rattle.pol_fields.specs.declared.fields.TheConstants.{AV_SOURCE, AV_TARGET, AV_CLASS, AV_SPECIFIED, AV_XKIND, AV_DRIVER, AV_BITS, AV_DATA}
use Rattle.pol_cursor.specs.Outcome.{Reader, ◌>>=◌, done}
use Rattle.pol_cursor.specs.Parts.{num, number, number_if, string, unless}
use Rattle.pol_cursor.specs.References.{Placed, Reference}
use Rattle.pol_cursor.specs.Spelling.{bytes_of}
use Rattle.pol_avtab.specs.declared.av_key.AvKey.{AvKey}
use Rattle.pol_avtab.specs.declared.av_rec.AvRec.{AvRec}
use Rattle.pol_avtab.specs.declared.av_rec.AvPart.{AvPart}
use Rattle.pol_avtab.specs.declared.av_rec.AvPart.TheVariants.{Data, Extended}
use Rattle.pol_avtab.specs.declared.codes.TheConstants.{AVTAB_ALLOWED, AVTAB_AUDITALLOW, AVTAB_AUDITDENY, AVTAB_TRANSITION, AVTAB_MEMBER, AVTAB_CHANGE}
use Rattle.pol_avtab.specs.declared.codes.TheConstants.{AVTAB_XPERMS_ALLOWED, AVTAB_XPERMS_AUDITALLOW, AVTAB_XPERMS_DONTAUDIT, AVTAB_XPERMS, AVTAB_XPERMS_IOCTLFUNCTION, AVTAB_XPERMS_IOCTLDRIVER}
use Rattle.pol_avtab.specs.AvKeys.{kind_of, has_key}

-- ---- what it specifies

-- one of the extended kinds
abbrev pub is_extended : ℕ → Bool
is_extended specified = not (bit_and specified AVTAB_XPERMS == 0)

-- a default type, which is the data, and no permissions (libsepol's AVTAB_TYPE)
abbrev pub is_default : ℕ → Bool
is_default specified = let kind = kind_of specified in kind == AVTAB_TRANSITION || kind == AVTAB_MEMBER || kind == AVTAB_CHANGE

-- exactly one kind, and from version 30 on also an extended one
abbrev pub is_kind : ℕ → ℕ → Bool
is_kind version kind =
    kind == AVTAB_ALLOWED || kind == AVTAB_AUDITALLOW || kind == AVTAB_AUDITDENY || kind == AVTAB_TRANSITION || kind == AVTAB_MEMBER || kind == AVTAB_CHANGE
    || nat_le 30 version && (kind == AVTAB_XPERMS_ALLOWED || kind == AVTAB_XPERMS_AUDITALLOW || kind == AVTAB_XPERMS_DONTAUDIT)

-- ---- the conditions of its fields

-- In the table no earlier rule has the key, unless it is extended.
abbrev pub earlier_test : Bool → AvKey → Option Cause
earlier_test has key = unless (is_extended key.specified || not has) DuplicateRule

-- A rule under a condition is no extended one below version 34 (this project's profile).
abbrev pub condition_test : ℕ → ℕ → Option Cause
condition_test version kind = unless (nat_le 34 version || not (is_extended kind)) ExtendedInCondition

-- the conditions on where it stands: in the table, where an earlier rule has its key or none has, or under a condition
abbrev pub standing_test : ℕ → Option Bool → AvKey → Option Cause
standing_test version None key = condition_test version key.specified
standing_test version (Some has) key = earlier_test has key

-- the conditions on its kind
abbrev pub kind_test : ℕ → Option Bool → AvKey → Option Cause
kind_test version earlier key = if is_kind version key.specified then standing_test version earlier key else Some BadSpecified

-- the conditions on what it specifies, which is in the key without the mark: in the table behind these keys, or, with none, under a
-- condition
abbrev pub specified_test : ℕ → Option (List AvKey) → AvKey → Option Cause
specified_test version earlier key = kind_test version (option_map (λ keys. has_key keys key) earlier) key

-- Extended permissions are those of one driver, or whole drivers.
abbrev pub xkind_test : ℕ → Option Cause
xkind_test xkind = unless (xkind == AVTAB_XPERMS_IOCTLFUNCTION || xkind == AVTAB_XPERMS_IOCTLDRIVER) BadExtendedKind

-- ---- reading and spelling

unfoldable pub extended_at : Reader AvPart
extended_at = do
  xkind ← number_if AV_XKIND 1 xkind_test
  driver ← number AV_DRIVER 1
  bits ← string AV_BITS 32
  done (Extended xkind driver bits)

unfoldable pub data_at : Reader AvPart
data_at = do
  mask ← number AV_DATA 4
  done (Data mask)

unfoldable pub part_at : Bool → Reader AvPart
part_at extended = if extended then extended_at else data_at

-- a rule of the table, behind rules with these keys, or, with none, one under a condition
unfoldable pub av_at : ℕ → Option (List AvKey) → Reader AvRec
av_at version earlier = do
  source ← number AV_SOURCE 2
  target ← number AV_TARGET 2
  class ← number AV_CLASS 2
  specified ← number_if AV_SPECIFIED 2 (λ specified. specified_test version earlier (record { source = source; target = target; class = class; specified = kind_of specified }))
  part ← part_at (is_extended specified)
  done (record { source = source; target = target; class = class; specified = specified; part = part })

abbrev pub spell_part : AvPart → List ℕ
spell_part (Data mask) = bytes_of 4 mask
spell_part (Extended xkind driver bits) = bytes_of 1 xkind ++ bytes_of 1 driver ++ bits

abbrev pub spell_av : AvRec → List ℕ
spell_av av = bytes_of 2 av.source ++ bytes_of 2 av.target ++ bytes_of 2 av.class ++ bytes_of 2 av.specified ++ spell_part av.part

-- The part is the one that has to be there, and its numbers fit their fields.
abbrev pub PartFits : Bool → AvPart → Type 0
PartFits extended (Data mask) = (extended ≡ false) × (mask < 2 ^ 32)
PartFits extended (Extended xkind driver bits) = (extended ≡ true) × (xkind < 2 ^ 8) × (driver < 2 ^ 8) × (length bits ≡ 32)

-- The numbers of an access vector fit their fields, and it has the extended part exactly where it is extended.
pub record AvFits (av : AvRec) : Type 0 where
  pub source : av.source < 2 ^ 16
  pub target : av.target < 2 ^ 16
  pub class : av.class < 2 ^ 16
  pub specified : av.specified < 2 ^ 16
  pub part : PartFits (is_extended av.specified) av.part

-- ---- the access vector that stands at a place

abbrev pub specified_in : List ℕ → ℕ → ℕ
specified_in bytes place = num bytes (place + 6) 2

abbrev pub part_in : Bool → List ℕ → ℕ → AvPart
part_in extended bytes place = if extended then Extended (num bytes place 1) (num bytes (place + 1) 1) (take 32 (drop (place + 2) bytes)) else Data (num bytes place 4)

abbrev pub av_in : List ℕ → ℕ → AvRec
av_in bytes place = record {
  source = num bytes place 2;
  target = num bytes (place + 2) 2;
  class = num bytes (place + 4) 2;
  specified = specified_in bytes place;
  part = part_in (is_extended (specified_in bytes place)) bytes (place + 8);
}

-- how many bytes an access vector takes that specifies this
abbrev pub av_length : ℕ → ℕ
av_length specified = if is_extended specified then 42 else 12

-- the place behind the one there
abbrev pub av_end : List ℕ → ℕ → ℕ
av_end bytes place = place + av_length (specified_in bytes place)

-- an access vector stands there, in a buffer of a policy's size
abbrev pub HasAv : List ℕ → ℕ → Type 0
HasAv bytes place = (av_end bytes place ≤ length bytes) × (length bytes ≤ MAX_POLICY_BYTES)

-- ---- what it names

-- the default type, where the data is one
abbrev pub part_references : ℕ → Bool → AvPart → List Reference
part_references place default (Data mask) = if default then record { place = place; field = AV_DATA; table = Types; value = mask } ∷ [] else []
part_references place default (Extended xkind driver bits) = []

-- source, target, class, and a default type
abbrev pub av_references : Placed AvRec → List Reference
av_references av =
    record { place = av.place; field = AV_SOURCE; table = Types; value = av.value.source } ∷
    record { place = av.place + 2; field = AV_TARGET; table = Types; value = av.value.target } ∷
    record { place = av.place + 4; field = AV_CLASS; table = Classes; value = av.value.class } ∷
    part_references (av.place + 8) (is_default av.value.specified) av.value.part
