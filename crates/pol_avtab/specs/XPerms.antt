-- The ioctl numbers of an extended access vector (libsepol's avtab_extended_perms_t), and the permissions of a plain one.
use Rattle.std.specs.Prelude.{◌≡◌, ℕ, ◌+◌, ◌-◌, ◌*◌, ◌≤◌, ◌<◌, true, false, ◌/◌, ◌%◌, ◌^◌, Bool, ◌==◌, ◌&&◌, Option, Some, None, List, take, drop, if◌then◌else◌}
use Rattle.std.specs.List.{filter, range_with_len}
use Rattle.std.specs.Int.{bit_at}
use Rattle.pol_cursor.specs.Parts.{num}
use Rattle.pol_avtab.specs.declared.av_rec.AvPart.{AvPart}
use Rattle.pol_avtab.specs.declared.av_rec.AvPart.TheVariants.{Data, Extended}
use Rattle.pol_avtab.specs.declared.codes.TheConstants.{AVTAB_AUDITDENY, AVTAB_XPERMS_IOCTLFUNCTION}
use Rattle.pol_avtab.specs.AvKeys.{kind_of}

-- the extended part of an access vector: its kind, its driver, and the 32 bytes of its bits
pub record Numbers : Type 0 where
  pub xkind : ℕ
  pub driver : ℕ
  pub bits : List ℕ

-- that of a part, where it is an extended one
abbrev pub xperms_of : AvPart → Option Numbers
xperms_of (Data mask) = None
xperms_of (Extended xkind driver bits) = Some (record { xkind = xkind; driver = driver; bits = bits })

-- the data of a part, where it is no extended one
abbrev pub mask_of : AvPart → Option ℕ
mask_of (Data mask) = Some mask
mask_of (Extended xkind driver bits) = None

-- the extended part that stands at a place
abbrev pub xperms_in : List ℕ → ℕ → Numbers
xperms_in bytes place = record { xkind = num bytes place 1; driver = num bytes (place + 1) 1; bits = take 32 (drop (place + 2) bytes) }

-- bit b, which is that of number b mod 32 of the little-endian 32-bit number b / 32 (libsepol's xperm_test)
abbrev pub has_xbit : List ℕ → ℕ → Bool
has_xbit bits b = bit_at (num bits (4 * (b / 32)) 4) (b % 32) == 1

-- Numbers of one driver are those with the driver as their high byte whose low byte is a bit of it. Whole drivers are all the numbers
-- of each driver that is a bit of it.
abbrev pub holds : Numbers → ℕ → Bool
holds x number = if x.xkind == AVTAB_XPERMS_IOCTLFUNCTION then number / 256 == x.driver && has_xbit x.bits (number % 256) else has_xbit x.bits (number / 256)

-- the numbers of 16 bits that it holds from one on, rising
unfoldable pub numbers_from : Numbers → ℕ → List ℕ
numbers_from x first = filter (holds x) (range_with_len first (65536 - first))

-- all of them
abbrev pub numbers_of : Numbers → List ℕ
numbers_of x = numbers_from x 0

-- the permissions that a rule shows: the data of auditdeny are those that are audited, and it shows the others (the SETools
-- manual page of sesearch, of dontaudit)
abbrev pub shown_mask : ℕ → ℕ → ℕ
shown_mask specified mask = if kind_of specified == AVTAB_AUDITDENY then 2 ^ 32 - 1 - mask else mask

-- the least bit at or above one of them
pub record IsNextBit (bits : List ℕ) (from found : ℕ) : Type 0 where
  pub above : from ≤ found
  pub below : found < 256
  pub there : has_xbit bits found ≡ true
  pub least : (b : ℕ) → from ≤ b → b < found → has_xbit bits b ≡ false
