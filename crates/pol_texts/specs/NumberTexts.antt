-- The texts of ports and partition keys, one of them or a range (SETools' portcon and ibpkeycon statements).
use Rattle.std.specs.Prelude.{ℕ, ◌==◌, false, List, ◌++◌, codes, decimal, if◌then◌else◌}
use Rattle.std.specs.Fmt.{digits}

-- LOW, or LOW-HIGH where they differ
abbrev pub bounds_text : (ℕ → List ℕ) → ℕ → ℕ → List ℕ
bounds_text text low high = if low == high then text low else text low ++ codes "-" ++ text high

-- ports are decimal
abbrev pub ports_text : ℕ → ℕ → List ℕ
ports_text low high = bounds_text decimal low high

-- a partition key is 0x and lower hexadecimal digits, without zeros in front
abbrev pub key_text : ℕ → List ℕ
key_text key = codes "0x" ++ digits 16 false key

abbrev pub keys_text : ℕ → ℕ → List ℕ
keys_text low high = bounds_text key_text low high
