-- How much room for rules the bytes of a value have: a byte has room for 16 thirds of a rule, so that the 12 bytes of a node of a
-- bitmap have room for the rules of its 64 bits.
use Rattle.std.proofs.Common.{◌≡◌, ℕ, zero, suc, ◌+◌, ◌-◌, ◌*◌, ◌≤◌, Bool, true, false, ltb, Option, Some, None, List, [], ◌∷◌, length, refl, ap, arith}
use Rattle.std.specs.Prelude.{◌==◌}
use Rattle.std.specs.Int.{bit_at}
use Rattle.std.specs.List.{flat_map, range_with_len}
use Rattle.std.proofs.lemmas.Bool.{ltb-false}
use Rattle.std.proofs.lemmas.List.{length-append}
use Rattle.std.proofs.lemmas.List.Concat.{flat_map-cons}
use Rattle.std.proofs.lemmas.List.FromFn.{length-range_with_len}
use Rattle.std.proofs.lemmas.List.Sums.{length-filter, count_by-le-length}
use Rattle.pol_fields.specs.declared.Field.{Field}
use Rattle.pol_fields.specs.declared.Cause.{Cause}
use Rattle.pol_fields.specs.declared.Cause.TheVariants.{Short}
use Rattle.pol_fields.specs.declared.field.Field.{Field}
use Rattle.pol_cursor.specs.Outcome.{Got, Reader, fault, ◌>>=◌, done, judged, checked}
use Rattle.pol_cursor.specs.Parts.{num, number, string, list_of, records_at, counted, optional}
use Rattle.pol_cursor.specs.References.{Placed, placed}
use Rattle.pol_cursor.specs.Contexts.{records_after}
use Rattle.pol_cursor.specs.FileNames.{name_length_at, name_bytes_at, name_at}
use Rattle.pol_cursor.proofs.Laws.{and_then_got, guard_got, judged_got}
use Rattle.pol_bitmap.specs.declared.Node.{Node}
use Rattle.pol_bitmap.specs.Nodes.{node_bits, bits_of}
use Rattle.pol_bitmap.specs.Bitmap.{node_at, nodes_at, floor_after, bitmap_at}

-- Where a reader gives a value of the bytes from a place to the next, they have room for what the value takes, less what the parts before
-- it have left, and it ends within the bytes, unless it began behind them.
pub record HasRoom {A : Type 0} (r : Reader A) (left : ℕ) (takes : A → ℕ) : Type 0 where
  pub each : (bytes : List ℕ) (place : ℕ) (x : A) (next : ℕ) → r bytes place ≡ Got x next
      → (place * 16 + takes x ≤ next * 16 + left) × (next ≤ length bytes + (place - length bytes)) × (place ≤ next)

got_is : {A : Type 0} (x : A) (n : ℕ) (y : A) (m : ℕ) → Got x n ≡ Got y m → (x ≡ y) × (n ≡ m)
got_is x n y m e = (cc, cc)

takes_same : {A : Type 0} (takes : A → ℕ) (x y : A) → x ≡ y → takes x ≡ takes y
takes_same takes x y e = ap takes e

-- ---- no part, and a part before others

pub room-done : {A : Type 0} (left : ℕ) (takes : A → ℕ) (x : A) → takes x ≤ left → HasRoom (done x) left takes
room-done left takes x enough = record {
  each = λ bytes place y next e.
      let g = got_is x place y next e in
      let same = takes_same takes x y g.0 in
      (omega (arith, g.1, same, enough), omega (arith, g.1), omega (arith, g.1));
}

pub room-then : {A B : Type 0} {r : Reader A} {f : A → Reader B} {left : ℕ} {first : A → ℕ} {takes : B → ℕ} → HasRoom r 0 first → ((x : A) → HasRoom (f x) (left + first x) takes) → HasRoom (r >>= f) left takes
room-then {A} {B} {r} {f} {left} {first} {takes} h k = record {
  each = λ bytes place y next e.
      let g = and_then_got (r bytes place) (λ x next. f x bytes next) y next e in
      let one = h.each bytes place g.0 g.1 g.2 in
      let two = (k g.0).each bytes g.1 y next g.3 in
      (omega (arith, one.0, two.0), omega (arith, one.1, two.1, one.2), omega (arith, one.2, two.2));
}

-- a part that takes less
pub room-less : {A : Type 0} {r : Reader A} {left : ℕ} {more less : A → ℕ} → HasRoom r left more → ((x : A) → less x ≤ more x) → HasRoom r left less
room-less h le = record {
  each = λ bytes place x next e.
      let one = h.each bytes place x next e in
      (omega (arith, one.0, le x), one.1, one.2);
}

-- ---- numbers and bytes

pub room-number : (d : Field) (w room : ℕ) → room ≤ w * 16 → HasRoom (number d w) 0 (λ n. room)
unfolding number
room-number d w room enough = record {
  each = λ bytes place n next e.
      let g = guard_got (ltb (length bytes) (place + w)) (fault place d Short) (num bytes place w) (place + w) n next e in
      let long : place + w ≤ length bytes = ltb-false _ _ g.0 in
      (omega (arith, g.2, enough), omega (arith, g.2, long), omega (arith, g.2));
}

pub room-string : (d : Field) (n : ℕ) → HasRoom (string d n) 0 (λ s. 0)
unfolding string
room-string d n = record {
  each = λ bytes place s next e.
      let g = guard_got (ltb (length bytes) (place + n)) (fault place d Short) _ (place + n) s next e in
      let long : place + n ≤ length bytes = ltb-false _ _ g.0 in
      (omega (arith, g.2), omega (arith, g.2, long), omega (arith, g.2));
}

pub room-checked : {A : Type 0} (d : Field) (r : Reader A) (test : A → Option Cause) {takes : A → ℕ} → HasRoom r 0 takes → HasRoom (checked d r test) 0 takes
room-checked {A} d r test {takes} h = record {
  each = λ bytes place y end e.
      let g = and_then_got (r bytes place) (λ x next. judged (test x) d x place next) y end e in
      let j = judged_got (test g.0) d g.0 place g.1 y end g.3 in
      let one = h.each bytes place g.0 g.1 g.2 in
      let same = takes_same takes g.0 y j.1 in
      (omega (arith, one.0, same, j.2), omega (arith, one.1, j.2), omega (arith, one.2, j.2));
}

pub room-number_if : (d : Field) (w room : ℕ) (test : ℕ → Option Cause) → room ≤ w * 16 → HasRoom (checked d (number d w) test) 0 (λ n. room)
room-number_if d w room test enough = room-checked d (number d w) test (room-number d w room enough)

pub room-placed : {A : Type 0} {r : Reader A} {takes : A → ℕ} → HasRoom r 0 takes → HasRoom (placed r) 0 (λ p. takes p.value)
unfolding placed
room-placed {A} {r} {takes} h = record {
  each = λ bytes place p end e.
      let g = and_then_got (r bytes place) (λ x next. Got (record { place = place; value = x }) next) p end e in
      let j = got_is (record { place = place; value = g.0 }) g.1 p end g.3 in
      let one = h.each bytes place g.0 g.1 g.2 in
      let same = takes_same (λ (q : Placed A). takes q.value) (record { place = place; value = g.0 }) p j.0 in
      (omega (arith, one.0, same, j.1), omega (arith, one.1, j.1), omega (arith, one.2, j.1));
}

pub room-optional : {A : Type 0} {r : Reader A} (there : Bool) → HasRoom r 0 (λ x. 0) → HasRoom (optional there r) 0 (λ o. 0)
unfolding optional
room-optional true h = room-then h λ x. room-done _ _ (Some x) (omega arith)
room-optional false h = room-done _ _ None (omega arith)

-- ---- lists

-- what the items take together
unfoldable pub total : {A : Type 0} → (A → ℕ) → List A → ℕ
total takes [] = 0
total takes (x ∷ xs) = takes x + total takes xs

pub room-list_of : {S A : Type 0} (item : ℕ → S → Reader A) (step : S → A → S) (takes : A → ℕ) → ((left : ℕ) (context : S) → HasRoom (item left context) 0 takes) → (n : ℕ) (context : S) → HasRoom (list_of item step n context) 0 (total takes)
unfolding list_of total
room-list_of item step takes each zero context = room-done 0 (total takes) [] (omega arith)
room-list_of item step takes each (suc n) context =
    room-then (each n context) λ x.
    room-then (room-list_of item step takes each n (step context x)) λ xs.
    room-done _ (total takes) (x ∷ xs) (omega arith)

pub room-records : {A : Type 0} {r : Reader A} (takes : A → ℕ) → HasRoom r 0 takes → (n : ℕ) → HasRoom (records_at r n) 0 (total takes)
unfolding records_at
room-records {A} {r} takes h n = room-list_of {S = Unit {0}} (λ left context. r) (λ context x. context) takes (λ left context. h) n tt

pub room-records_after : {S A : Type 0} (record_at : S → Reader A) (after : S → A → S) (takes : A → ℕ) → ((context : S) → HasRoom (record_at context) 0 takes) → (n : ℕ) (context : S) → HasRoom (records_after record_at after n context) 0 (total (λ p. takes p.value))
unfolding records_after
room-records_after {S} {A} record_at after takes each n context = room-list_of (λ left context. placed (record_at context)) (λ context r. after context r.value) (λ p. takes p.value) (λ left context. room-placed (each context)) n context

-- records behind their count
pub room-counted : {A : Type 0} {r : Reader A} (d : Field) (takes : A → ℕ) → HasRoom r 0 takes → HasRoom (counted d (records_at r)) 0 (total takes)
room-counted d takes h = room-then (room-number d 4 0 (omega arith)) λ n. room-records takes h n

-- lists whose items take no more
pub total_less : {A : Type 0} (less more : A → ℕ) (xs : List A) → ((x : A) → less x ≤ more x) → total less xs ≤ total more xs
unfolding total
total_less less more [] le = omega arith
total_less less more (x ∷ xs) le = omega (arith, le x, total_less less more xs le)

-- the items of many lists, each of which takes as many as one of the others
pub total_items : {A B : Type 0} (f : A → List B) (xs : List A) → 3 * length (flat_map f xs) ≡ total (λ x. 3 * length (f x)) xs
unfolding total
total_items f [] = refl
total_items f (x ∷ xs) =
    let rest = total_items f xs in
    let more = length-append (f x) (flat_map f xs) in
    rw (flat_map-cons f x xs) (omega (arith, rest, more))

pub total_same : {A : Type 0} (each : ℕ) (xs : List A) → total (λ x. each) xs ≡ each * length xs
unfolding total
total_same each [] = omega arith
total_same each (x ∷ xs) = omega (arith, total_same each xs)

-- ---- bitmaps

-- the bits of a node, of which there are 64
few_bits : (n : Node) → 3 * length (node_bits n) ≤ 192
unfolding node_bits
few_bits n =
    let all = range_with_len n.start 64 in
    let has = λ (bit : ℕ). bit_at n.map (bit - n.start) == 1 in
    let kept = length-filter has all in
    let below = count_by-le-length has all in
    omega (arith, kept, below, length-range_with_len n.start 64)

room-node : (limit : Option ℕ) (highbit left floor : ℕ) → HasRoom (node_at limit highbit left floor) 0 (λ n. 192)
unfolding node_at
room-node limit highbit left floor =
    room-then (room-number_if _ 4 64 _ (omega arith)) λ start.
    room-then (room-number_if _ 8 128 _ (omega arith)) λ map.
    room-done _ _ _ (omega arith)

room-nodes : (limit : Option ℕ) (highbit count : ℕ) → HasRoom (nodes_at limit highbit count) 0 (λ ns. 3 * length (bits_of ns))
unfolding nodes_at
room-nodes limit highbit count =
    room-less (room-list_of (node_at limit highbit) floor_after (λ n. 192) (room-node limit highbit) count 0)
    (λ ns. rw (total_items node_bits ns) (total_less (λ n. 3 * length (node_bits n)) (λ n. 192) ns few_bits))

pub room-bitmap : (limit : Option ℕ) → HasRoom (bitmap_at limit) 0 (λ ns. 3 * length (bits_of ns))
unfolding bitmap_at
room-bitmap limit =
    room-then (room-number_if _ 4 0 _ (omega arith)) λ unit.
    room-then (room-number_if _ 4 0 _ (omega arith)) λ highbit.
    room-then (room-number_if _ 4 0 _ (omega arith)) λ count.
    room-nodes limit highbit count

-- a bitmap beside which nothing is asked for
pub room-bits : (limit : Option ℕ) → HasRoom (bitmap_at limit) 0 (λ ns. 0)
room-bits limit = room-less (room-bitmap limit) (λ ns. omega arith)

-- ---- names

pub room-name : (len_field name_field : Field) → HasRoom (name_at len_field name_field) 0 (λ name. 0)
unfolding name_at name_length_at name_bytes_at
room-name len_field name_field =
    room-then (room-number_if _ 4 0 _ (omega arith)) λ len.
    room-then (room-checked _ _ _ (room-string _ len)) λ name.
    room-done _ _ name (omega arith)
