-- The first bytes of names as numbers, which names are sorted by: what serves the code alone.
use Rattle.std.specs.Prelude.{◌≡◌, ℕ, List}
use Rattle.byteorder.specs.Endian.{big_number}
use Rattle.pol_cursor.specs.Spelling.{AreBytes}
use Rattle.pol_symtab.specs.declared.name_order.Entry.{Entry}

-- the first eight bytes of a name as one number, the first byte the highest, with zeros behind a shorter name
unfoldable pub prefix : List ℕ → ℕ
prefix name = big_number 8 name

-- the prefix of an entry is that of its name, each element of which is a byte
pub record HasPrefix (entry : Entry) : Type 0 where
  pub same : entry.prefix ≡ prefix entry.name.now
  pub bytes : AreBytes entry.name.now
