-- The two laws of a bitmap.
use Rattle.std.proofs.Common.{◌≡◌, ◌<◌, ℕ, zero, suc, ◌+◌, ◌^◌, Option, List, [], ◌∷◌, length, None, refl, sym, ap, append_assoc, arith}
use Rattle.std.specs.Prelude.{◌==◌}
use Rattle.std.specs.Int.{bytes_low_first, byte_at}
use Rattle.std.specs.List.{flat_map, AllByRecursion}
use Rattle.std.proofs.lemmas.List.{append-nil}
use Rattle.std.proofs.lemmas.List.Concat.{flat_map-cons}
use Rattle.std.proofs.lemmas.Bool.{and_parts, eqb-true}
use Rattle.pol_fields.specs.declared.fault.Cause.TheVariants.{BadStart, BadCount, BadMapUnit}
use Rattle.pol_fields.specs.declared.fields.TheConstants.{BITMAP_UNIT, BITMAP_HIGHBIT, BITMAP_COUNT, BITMAP_STARTBIT, BITMAP_MAP}
use Rattle.pol_cursor.specs.Parts.{num, list_of}
use Rattle.pol_cursor.specs.Spelling.{bytes_of, AreBytes}
use Rattle.pol_cursor.specs.Laws.{Reads, Again, IsSpelling, IsReadAgain, IsReadFromSpelling}
use Rattle.pol_cursor.proofs.Numbers.{length-bytes_of, num-lt, bytes_of-num}
use Rattle.pol_cursor.proofs.Laws.{Reads-done, Reads-part, Reads-as, Reads-number_if, Again-done, Again-part, Again-as, Again-number_if, Again-list_of}
use Rattle.pol_bitmap.specs.declared.node.Node.{Node}
use Rattle.pol_bitmap.proofs.NodePlaces.{unless_none}
use Rattle.pol_bitmap.specs.Bitmap.{count_test, start_test, node_at, floor_after, nodes_at, bitmap_at, high_of, spell_node, spell_bitmap, NodeFits, BitmapFits}

-- ---- nodes

-- The last node ends at highbit.
abbrev EndsAt : ℕ → ℕ → Node → Type 0
EndsAt highbit left n = NodeFits n × (left ≡ 0 → n.start + 64 ≡ highbit)

last_ends : (highbit floor left start : ℕ) → start_test highbit floor (left == 0) start ≡ None → left ≡ 0 → start + 64 ≡ highbit
last_ends highbit floor zero start e z = eqb-true _ _ (and_parts _ _ (unless_none _ BadStart e)).1
last_ends highbit floor (suc left) start e z = absurd cc

node_spelled : (limit : Option ℕ) (highbit left floor : ℕ) → Reads (node_at limit highbit left floor) (IsSpelling spell_node (EndsAt highbit left))
unfolding node_at
node_spelled limit highbit left floor =
    Reads-part (Reads-number_if BITMAP_STARTBIT 4) λ start start-fits.
    Reads-part (Reads-number_if BITMAP_MAP 8) λ map map-fits.
    Reads-done _ (record { start = start; map = map }) (record { same = simp append-nil; fitting = ((start-fits.0, map-fits.0), last_ends highbit floor left start start-fits.1) })

node_again : (limit : Option ℕ) (highbit left floor : ℕ) (n : Node) → NodeFits n → Again (node_at limit highbit left floor) n (spell_node n)
unfolding node_at
node_again limit highbit left floor n fits =
    Again-as (Again-part _ (Again-number_if BITMAP_STARTBIT 4 n.start _ fits.0) (Again-part _ (Again-number_if BITMAP_MAP 8 n.map _ fits.1) (Again-done n))) (simp append-nil)

high_of-cons : (highbit count : ℕ) (n : Node) (ns : List Node) → EndsAt highbit count n → AllByRecursion NodeFits ns × (length ns ≡ count) → ((m : ℕ) → count ≡ suc m → high_of ns ≡ highbit) → high_of (n ∷ ns) ≡ highbit
high_of-cons highbit count n [] h all rest = h.1 (sym all.1)
high_of-cons highbit count n (m ∷ ns) h all rest = rest (length ns) (sym all.1)

-- at least one node
nodes_spelled : (limit : Option ℕ) (highbit count floor : ℕ) → Reads (list_of (node_at limit highbit) floor_after count floor) (IsSpelling (flat_map spell_node) (λ ns. (length ns ≡ count) × AllByRecursion NodeFits ns × ((m : ℕ) → count ≡ suc m → high_of ns ≡ highbit)))
unfolding list_of
nodes_spelled limit highbit zero floor = Reads-done _ [] (record { same = refl; fitting = (refl, tt, λ m e. absurd cc) })
nodes_spelled limit highbit (suc count) floor =
    Reads-part (node_spelled limit highbit count floor) λ n n-fits.
    Reads-part (nodes_spelled limit highbit count (n.start + 1)) λ ns ns-fits.
    Reads-done _ (n ∷ ns) (record { same = rw (append-nil, flat_map-cons) refl; fitting = (ap suc ns-fits.0, (n-fits.0, ns-fits.1), λ m e. high_of-cons highbit count n ns n-fits (ns-fits.1, ns-fits.0) ns-fits.2) })

high_is : (highbit count : ℕ) (ns : List Node) → count_test highbit count ≡ None → length ns ≡ count → ((m : ℕ) → count ≡ suc m → high_of ns ≡ highbit) → high_of ns ≡ highbit
high_is highbit zero [] e len h = sym (eqb-true _ _ (unless_none _ BadCount e))
high_is highbit zero (n ∷ ns) e len h = absurd cc
high_is highbit (suc count) ns e len h = h count refl

-- What was read fits, and ends within 32 bits.
bitmap_read : (limit : Option ℕ) → IsReadFromSpelling (bitmap_at limit) spell_bitmap (λ ns. BitmapFits ns × (high_of ns < 2 ^ 32))
unfolding bitmap_at nodes_at
bitmap_read limit =
    Reads-part (Reads-number_if BITMAP_UNIT 4) λ unit unit-fits.
    Reads-part (Reads-number_if BITMAP_HIGHBIT 4) λ highbit highbit-fits.
    Reads-part (Reads-number_if BITMAP_COUNT 4) λ count count-fits.
    Reads-as (nodes_spelled limit highbit count 0) λ text ns h.
    let high = high_is highbit count ns count-fits.1 h.fitting.0 h.fitting.2 in
    let is-unit : unit ≡ 64 = eqb-true _ _ (unless_none _ BadMapUnit unit-fits.1) in
    record {
      same = rw (is-unit, high, h.fitting.0, h.same) (simp append_assoc);
      fitting = (record { count = rw h.fitting.0 count-fits.0; nodes = h.fitting.1 }, rw high highbit-fits.0);
    }

-- The second law of a bitmap.
pub bitmap_spelled : (limit : Option ℕ) → IsReadFromSpelling (bitmap_at limit) spell_bitmap BitmapFits
bitmap_spelled limit = Reads-as (bitmap_read limit) λ text ns h. record { same = h.same; fitting = h.fitting.0 }

pub bitmap_within : (limit : Option ℕ) → IsReadFromSpelling (bitmap_at limit) spell_bitmap (λ ns. high_of ns < 2 ^ 32)
bitmap_within limit = Reads-as (bitmap_read limit) λ text ns h. record { same = h.same; fitting = h.fitting.1 }

-- ---- the field of highbit

byte_at-lt : (place n : ℕ) → byte_at place n < 256
byte_at-lt zero n = omega arith
byte_at-lt (suc place) n = omega arith

bytes-are : (first w n : ℕ) → AreBytes (bytes_low_first first w n)
bytes-are first zero n i = omega arith
bytes-are first (suc w) n zero = byte_at-lt first n
bytes-are first (suc w) n (suc i) = bytes-are (suc first) w n i

-- what the four bytes of a number say
abbrev field_of : ℕ → ℕ
field_of n = num (bytes_of 4 n) 0 4

field_of-are : (n : ℕ) → AreBytes (bytes_of 4 n)
unfolding bytes_of
field_of-are n = bytes-are 0 4 n

-- A number that was cut to its field is spelled by the bytes of the number itself.
bytes_of-field_of : (n : ℕ) → bytes_of 4 (field_of n) ≡ bytes_of 4 n
unfolding bytes_of
bytes_of-field_of n = bytes_of-num (bytes_of 4 n) 0 4 (field_of-are n) (omega (arith, length-bytes_of 4 n))

-- The first law of a bitmap.
pub bitmap_again : (limit : Option ℕ) → IsReadAgain (bitmap_at limit) spell_bitmap BitmapFits
unfolding bitmap_at nodes_at
bitmap_again limit ns fits =
    let highbit = field_of (high_of ns) in
    Again-as (Again-part _ (Again-number_if BITMAP_UNIT 4 64 _ (omega arith)) (Again-part _ (Again-number_if BITMAP_HIGHBIT 4 highbit _ (num-lt (bytes_of 4 (high_of ns)) 0 4 (field_of-are (high_of ns)))) (Again-part _ (Again-number_if BITMAP_COUNT 4 (length ns) _ fits.count)
    (Again-list_of (node_at limit highbit) floor_after spell_node NodeFits (node_again limit highbit) ns 0 fits.nodes)))) (rw (bytes_of-field_of (high_of ns)) (simp append_assoc))
