-- The keys of a table of access vectors, by which libsepol's avtab_insert finds an earlier rule.
use Rattle.std.specs.Prelude.{ℕ, ◌+◌, ◌-◌, ◌*◌, Bool, ◌==◌, ◌&&◌, List, [], ◌∷◌, ◌++◌, bit_and, if◌then◌else◌}
use Rattle.std.specs.List.{list_any}
use Rattle.pol_avtab.specs.declared.codes.TheConstants.{AVTAB_ENABLED}
use Rattle.pol_avtab.specs.declared.av_key.AvKey.{AvKey}
use Rattle.pol_avtab.specs.declared.av_rec.AvRec.{AvRec}

-- what a rule specifies, without the mark of the running system: the bits below it
abbrev pub kind_of : ℕ → ℕ
kind_of specified = bit_and specified (AVTAB_ENABLED - 1)

-- source, target, class and what is specified, without the mark
abbrev pub key_of : AvRec → AvKey
key_of av = record { source = av.source; target = av.target; class = av.class; specified = kind_of av.specified }

abbrev pub same_key : AvKey → AvKey → Bool
same_key a b = (a.source == b.source) && (a.target == b.target) && (a.class == b.class) && (a.specified == b.specified)

abbrev pub has_key : List AvKey → AvKey → Bool
has_key keys key = list_any (same_key key) keys

-- the keys with another one, each once
abbrev pub with_key : List AvKey → AvKey → List AvKey
with_key keys key = if has_key keys key then keys else keys ++ key ∷ []

-- the four numbers of a key in a word of 64 bits
abbrev pub word_of : AvKey → ℕ
word_of key = key.source + 0x10000 * (key.target + 0x10000 * (key.class + 0x10000 * key.specified))
