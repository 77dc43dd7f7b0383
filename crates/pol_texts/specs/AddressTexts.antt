-- The texts of addresses, masks and InfiniBand prefixes.
use Rattle.std.specs.Prelude.{ℕ, ◌%◌, ◌==◌, ◌&&◌, List, [], ◌++◌, codes, decimal, length, get_or, nat_lt, if◌then◌else◌}
use Rattle.std.specs.List.{flat_map, join_by, range_with_len}
use Rattle.pol_texts.specs.Hexadecimal.{hex_byte}

-- the decimal numbers of the bytes, with points between them
abbrev pub ipv4_text : List ℕ → List ℕ
ipv4_text address = join_by decimal (codes ".") address

-- A colon stands before the third, the fifth byte and so on.
abbrev pub grouped_byte : List ℕ → ℕ → List ℕ
grouped_byte bytes i = (if nat_lt 0 i && (i % 2 == 0) then codes ":" else []) ++ hex_byte (get_or bytes i 0)

-- groups of four digits, with colons between them and without shortening: an IPv6 address, and the prefix of partition keys
abbrev pub groups_text : List ℕ → List ℕ
groups_text bytes = flat_map (grouped_byte bytes) (range_with_len 0 (length bytes))
