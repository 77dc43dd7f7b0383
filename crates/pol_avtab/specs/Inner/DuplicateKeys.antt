-- How the code finds a rule that has the key of an earlier one. Nothing here is promised to a caller.
use Rattle.std.specs.Prelude.{◌≡◌, ◌⊎◌, ◌<◌, ℕ, ◌+◌, ◌-◌, ◌*◌, ◌/◌, ◌%◌, ◌^◌, ◌≤◌, ◌==◌, Bool, true, not, Option, Some, None, List, [], ◌∷◌, map, length, if◌then◌else◌}
use Rattle.std.specs.List.{filter, Contains, IsDistinct}
use Rattle.std.specs.Int.{rotate_left, w32}
use Rattle.std.specs.Int.Bits.{bit_and, bit_xor}
use Rattle.pol_cursor.specs.Inner.BitPlaces.{has_bit_of}
use Rattle.pol_cursor.specs.Outcome.{Reader, Position, Got}
use Rattle.pol_cursor.specs.Contexts.{records_after}
use Rattle.pol_cursor.specs.References.{Placed}
use Rattle.pol_avtab.specs.declared.av_rec.AvRec.{AvRec}
use Rattle.pol_avtab.specs.declared.av_key.AvKey.{AvKey}
use Rattle.pol_avtab.specs.declared.key_order.LastKey.{LastKey}
use Rattle.pol_avtab.specs.AvKeys.{key_of, with_key, word_of}
use Rattle.pol_avtab.specs.AvRecord.{is_extended, av_at}

-- what a rule is read under: the version, and the keys of the rules before it, where they are collected
pub record Collecting : Type 0 where
  pub version : ℕ
  pub keys : List AvKey
  pub collects : Bool

abbrev pub rule_behind : Collecting → Reader AvRec
rule_behind context = av_at context.version (Some context.keys)

-- what the next one is read under
abbrev pub after_collecting : Collecting → AvRec → Collecting
after_collecting context av = record {
  version = context.version;
  keys = if context.collects then with_key context.keys (key_of av) else context.keys;
  collects = context.collects;
}

-- no earlier rule can have the key of one: there is none in its table, or it stands under a condition
abbrev pub IsFirst : Option (List AvKey) → Type 0
IsFirst None = Unit {0}
IsFirst (Some keys) = keys ≡ []

-- n rules, each behind those before it where keys are collected, and else each as if it were the first
unfoldable pub rules_behind : ℕ → Bool → ℕ → Reader (List (Placed AvRec))
rules_behind version collects n = records_after rule_behind after_collecting n (record { version = version; keys = []; collects = collects })

-- the keys of the rules that are not extended, as words
abbrev pub words_of : List (Placed AvRec) → List ℕ
words_of rules = map word_of (filter (λ key. not (is_extended key.specified)) (map (λ rule. key_of rule.value) rules))

-- ---- the order in which libsepol writes a table. Any function of a word would do; that of libsepol's hash passes the tables that it wrote.

-- its hash with one more number (the macro mix of avtab_hash)
unfoldable pub hashed : ℕ → ℕ → ℕ
hashed hash number =
    let scrambled = rotate_left w32 (number * 0xCC9E2D51 % 2 ^ 32) 15 * 0x1B873593 % 2 ^ 32 in
    (rotate_left w32 (bit_xor hash scrambled) 13 * 5 % 2 ^ 32 + 0xE6546B64) % 2 ^ 32

-- its hash when all numbers are in it
unfoldable pub finished : ℕ → ℕ
finished hash =
    let once = bit_xor hash (hash / 2 ^ 16) * 0x85EBCA6B % 2 ^ 32 in
    let twice = bit_xor once (once / 2 ^ 13) * 0xC2B2AE35 % 2 ^ 32 in
    bit_xor twice (twice / 2 ^ 16)

-- the slot of a key, which is one of 2 ^ 20
unfoldable pub slot_of : ℕ → ℕ
slot_of word =
    let source = word % 2 ^ 16 in
    let target = word / 2 ^ 16 % 2 ^ 16 in
    let class = word / 2 ^ 32 % 2 ^ 16 in
    finished (hashed (hashed (hashed 0 class) target) source) % 2 ^ 20

-- the place of a key in its slot: its source, its target and the low bits of its class
unfoldable pub place_in_slot : ℕ → ℕ
place_in_slot word = 0x1000 * (0x10000 * (word % 2 ^ 16) + word / 2 ^ 16 % 2 ^ 16) + word / 2 ^ 32 % 0x1000

-- the place of a key of a slot in that order
abbrev pub order_in : ℕ → ℕ → ℕ
order_in slot word = 2 ^ 44 * slot + place_in_slot word

abbrev pub order_of : ℕ → ℕ
order_of word = order_in (slot_of word) word

abbrev pub last_order : LastKey → ℕ
last_order last = order_in last.slot last.word

-- the kind of a word's rule, which is a bit
abbrev pub kind_bit : ℕ → ℕ
kind_bit word = word / 2 ^ 48

-- A word stands before the last one, or has its place, and a kind that is in the last one's.
abbrev pub IsPassed : LastKey → ℕ → Type 0
IsPassed last word = (order_of word < last_order last) ⊎ ((order_of word ≡ last_order last) × (bit_and last.kinds (kind_bit word) ≡ kind_bit word))

-- A word is none that was passed, and is passed from then on, as those are that were.
pub record Follows (last : LastKey) (word : ℕ) (next : LastKey) : Type 0 where
  pub new : IsPassed last word → ⊥
  pub passed : IsPassed next word
  pub stay : (other : ℕ) → IsPassed last other → IsPassed next other

-- No word stands twice, and all are passed.
pub record AreRising (last : LastKey) (words : List ℕ) : Type 0 where
  pub distinct : IsDistinct ◌==◌ words
  pub passed : (word : ℕ) → Contains words word → IsPassed last word

-- ---- marks of words, by two bits for each bucket

pub record Marks : Type 0 where
  pub shift : ℕ
  pub bits : List ℕ

-- There are 2 ^ (64 - shift) buckets.
pub record HasBuckets (shift : ℕ) (bits : List ℕ) : Type 0 where
  pub least : 1 ≤ shift
  pub most : shift ≤ 58
  pub long : length bits ≡ 2 ^ (59 - shift)

-- Any function would do: the high bits of a product spread words that are like each other.
unfoldable pub bucket_of : ℕ → ℕ → ℕ
bucket_of shift word = word * 0x9E3779B97F4A7C15 % 2 ^ 64 / 2 ^ shift

-- whether a word of its bucket was met
unfoldable pub is_met : Marks → ℕ → Bool
is_met marks word = has_bit_of marks.bits (2 * bucket_of marks.shift word)

-- whether one was met again
unfoldable pub is_shared : Marks → ℕ → Bool
is_shared marks word = has_bit_of marks.bits (2 * bucket_of marks.shift word + 1)

-- The test passes for each word that stands again behind it.
abbrev pub AreTested : (ℕ → Bool) → List ℕ → Type 0
AreTested test [] = Unit {0}
AreTested test (word ∷ words) = (Contains words word → test word ≡ true) × AreTested test words

-- The words were met, and the buckets of those that are there twice are shared.
pub record AreMarked (marks : Marks) (words : List ℕ) : Type 0 where
  pub met : (word : ℕ) → Contains words word → is_met marks word ≡ true
  pub twice : AreTested (is_shared marks) words

-- what was found is what the reader gives, with the cursor behind it
abbrev pub IsRead : {A : Type 0} → Reader A → Option A → Position → Position → Type 0
IsRead r None old new = Unit {0}
IsRead r (Some x) old new = (r old.bytes old.place ≡ Got x new.place) × (new.bytes ≡ old.bytes)
