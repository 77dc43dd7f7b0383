-- Bitmaps are read where no condition refuses them: those in the one form of a set.
use Rattle.std.proofs.Common.{◌≡◌, ℕ, ◌+◌, ◌%◌, ◌^◌, ◌<◌, ◌≤◌, ◌==◌, Bool, true, false, Option, None, List, [], ◌∷◌, length, refl, append_assoc, arith, if◌then◌else◌}
use Rattle.std.specs.Prelude.{nat_le}
use Rattle.std.specs.List.{AllByRecursion}
use Rattle.std.proofs.lemmas.List.{append-nil}
use Rattle.std.proofs.lemmas.Bool.{and_from, eq-eqb, ne_eqb, le-leb}
use Rattle.pol_fields.specs.declared.fields.TheConstants.{BITMAP_UNIT, BITMAP_HIGHBIT, BITMAP_COUNT, BITMAP_STARTBIT, BITMAP_MAP}
use Rattle.pol_bitmap.specs.declared.Node.{Node}
use Rattle.pol_bitmap.specs.Nodes.{IsRisingFrom}
use Rattle.pol_bitmap.specs.Bitmap.{highbit_test, count_test, start_test, is_out, map_test, node_at, floor_after, nodes_at, bitmap_at, high_of, spell_node, spell_bitmap, NodeFits, BitmapFits}
use Rattle.pol_moved.proofs.Granted.{GrantsOf, EachUnder, grants-done, grants-then, grants-as, grants-number_if, grants-list_of}

-- ---- one node

-- no condition refuses the node
record MayStand (limit : Option ℕ) (highbit left floor : ℕ) (n : Node) : Type 0 where
  fits : NodeFits n
  start : start_test highbit floor (left == 0) n.start ≡ None
  map : map_test limit n.start n.map ≡ None

node-granted : (limit : Option ℕ) (highbit left floor : ℕ) (n : Node) → MayStand limit highbit left floor n → GrantsOf (node_at limit highbit left floor) n (spell_node n)
unfolding node_at
node-granted limit highbit left floor n may =
    grants-as
    (grants-then _ (grants-number_if BITMAP_STARTBIT 4 n.start _ may.fits.0 may.start)
    (grants-then _ (grants-number_if BITMAP_MAP 8 n.map _ may.fits.1 may.map)
    (grants-done n refl)))
    (simp append-nil)

-- ---- the nodes of a set

high-above : (base : ℕ) (n : Node) (ns : List Node) → IsRisingFrom base (n ∷ ns) → base + 64 ≤ high_of (n ∷ ns)
high-above base n [] rises = omega (arith, rises.0)
high-above base n (m ∷ ms) rises = omega (arith, rises.0, high-above (n.start + 64) m ms rises.3)

high-whole : (base : ℕ) (ns : List Node) → IsRisingFrom base ns → high_of ns % 64 ≡ 0
high-whole base [] rises = refl
high-whole base (n ∷ []) rises = omega (arith, rises.1)
high-whole base (n ∷ m ∷ ms) rises = high-whole (n.start + 64) (m ∷ ms) rises.3

-- no node has a bit at or above the limit, where there is one
abbrev pub AreWithin : Option ℕ → List Node → Type 0
AreWithin limit ns = AllByRecursion (λ n. is_out limit n ≡ false) ns

map-stands : (limit : Option ℕ) (start map : ℕ) → 0 < map → is_out limit (record { start = start; map = map }) ≡ false → map_test limit start map ≡ None
map-stands limit start map some within = rw (ne_eqb map 0 (λ none. omega (arith, some, none)), within) refl

start-stands : (highbit floor start : ℕ) (last : Bool) → start % 64 ≡ 0 → floor ≤ start → (if last then start + 64 == highbit else nat_le (start + 64) highbit) ≡ true → start_test highbit floor last start ≡ None
start-stands highbit floor start last whole above ends = rw (and_from _ _ (and_from _ _ (eq-eqb _ _ whole) (le-leb _ _ above)) ends) refl

nodes-stand : (limit : Option ℕ) (floor base : ℕ) (ns : List Node) → floor ≤ base → IsRisingFrom base ns → AllByRecursion NodeFits ns → AreWithin limit ns → EachUnder (MayStand limit (high_of ns)) floor_after floor ns
nodes-stand limit floor base [] low rises fit within = tt
nodes-stand limit floor base (n ∷ []) low rises fit within =
    (record { fits = fit.0; start = start-stands (n.start + 64) floor n.start true rises.1 (omega (arith, rises.0)) (eq-eqb _ _ refl); map = map-stands limit n.start n.map rises.2 within.0 }, tt)
nodes-stand limit floor base (n ∷ m ∷ ms) low rises fit within =
    let above = high-above (n.start + 64) m ms rises.3 in
    let others : (length (m ∷ ms) == 0) ≡ false = ne_eqb (length (m ∷ ms)) 0 (λ none. omega (arith, none)) in (
      record {
        fits = fit.0;
        start = rw others (start-stands (high_of (m ∷ ms)) floor n.start false rises.1 (omega (arith, rises.0)) (le-leb _ _ (omega (arith, above))));
        map = map-stands limit n.start n.map rises.2 within.0;
      },
      nodes-stand limit (n.start + 1) (n.start + 64) (m ∷ ms) (omega arith) rises.3 fit.1 within.1,
    )

count-stands : (ns : List Node) → IsRisingFrom 0 ns → count_test (high_of ns) (length ns) ≡ None
count-stands [] rises = refl
count-stands (n ∷ ns) rises = rw (ne_eqb (length (n ∷ ns)) 0 (λ none. omega (arith, none)), le-leb 1 (high_of (n ∷ ns)) (omega (arith, high-above 0 n ns rises))) refl

-- The nodes of a set whose bits are below the limit are read.
pub grants-bitmap : (limit : Option ℕ) (ns : List Node) → high_of ns < 2 ^ 32 → BitmapFits ns → IsRisingFrom 0 ns → AreWithin limit ns → GrantsOf (bitmap_at limit) ns (spell_bitmap ns)
unfolding bitmap_at nodes_at
grants-bitmap limit ns high fits rises within =
    let whole : highbit_test (high_of ns) ≡ None = rw (eq-eqb (high_of ns % 64) 0 (high-whole 0 ns rises)) refl in
    grants-as
    (grants-then _ (grants-number_if BITMAP_UNIT 4 64 _ (omega arith) refl)
    (grants-then _ (grants-number_if BITMAP_HIGHBIT 4 (high_of ns) _ high whole)
    (grants-then _ (grants-number_if BITMAP_COUNT 4 (length ns) _ fits.count (count-stands ns rises))
    (grants-list_of (node_at limit (high_of ns)) floor_after spell_node (MayStand limit (high_of ns)) (node-granted limit (high_of ns)) ns 0 (nodes-stand limit 0 0 ns (omega arith) rises fits.nodes within)))))
    (simp append_assoc)

none-out : (ns : List Node) → AreWithin None ns
none-out [] = tt
none-out (n ∷ ns) = (refl, none-out ns)

-- The nodes of a set are read where its bits have no limit.
pub grants-set : (ns : List Node) → high_of ns < 2 ^ 32 → BitmapFits ns → IsRisingFrom 0 ns → GrantsOf (bitmap_at None) ns (spell_bitmap ns)
grants-set ns high fits rises = grants-bitmap None ns high fits rises (none-out ns)
