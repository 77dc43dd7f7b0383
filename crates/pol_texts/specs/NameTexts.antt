-- The text of a name that is bytes: of a file, a path, a file system, an interface or a device (this project's profile).
use Rattle.std.specs.Prelude.{ℕ, ◌==◌, ◌&&◌, ◌||◌, Bool, false, List, [], ◌∷◌, ◌++◌, codes, nat_le, if◌then◌else◌}
use Rattle.std.specs.List.{flat_map}
use Rattle.pol_texts.specs.Hexadecimal.{hex_byte}

-- a byte that is printed as it is: 0x20 to 0x7E, without the quotation mark and the backslash
abbrev pub is_plain : ℕ → Bool
is_plain byte = if byte == 0x22 || byte == 0x5c then false else nat_le 0x20 byte && nat_le byte 0x7e

-- every other byte is \x and two digits
abbrev pub byte_text : ℕ → List ℕ
byte_text byte = if is_plain byte then byte ∷ [] else codes "\\x" ++ hex_byte byte

abbrev pub name_text : List ℕ → List ℕ
name_text name = flat_map byte_text name
