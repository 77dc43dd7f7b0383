-- The nodes that were read are those that stand there.
use Rattle.std.proofs.Common.{◌≡◌, ℕ, zero, suc, ◌+◌, ◌*◌, ◌<◌, ◌≤◌, List, [], ◌∷◌, length, refl, sym, ap, subst, ◌∙◌, arith}
use Rattle.std.specs.Prelude.{◌==◌, slice_get, Some}
use Rattle.std.proofs.Common.{Option, Bool, true, false, ◌%◌, None}
use Rattle.std.proofs.lemmas.Bool.{and_parts, eqb-true, leb-true}
use Rattle.pol_fields.specs.declared.fault.Cause.{Cause}
use Rattle.pol_fields.specs.declared.fault.Cause.TheVariants.{BadStart}
use Rattle.pol_fields.specs.declared.fields.TheConstants.{BITMAP_STARTBIT, BITMAP_MAP}
use Rattle.pol_cursor.specs.Outcome.{Got, and_then}
use Rattle.pol_cursor.specs.Parts.{num, list_of, number_if, unless}
use Rattle.pol_cursor.proofs.Laws.{and_then_got}
use Rattle.pol_cursor.proofs.Facts.{number_if_is}
use Rattle.pol_bitmap.specs.declared.node.Node.{Node}
use Rattle.pol_bitmap.specs.Bitmap.{start_test, map_test, node_at, floor_after}
use Rattle.pol_bitmap.specs.Nodes.{IsRisingFrom, node_in, nodes_in}

pub got_is : {A : Type 0} (x : A) (n : ℕ) (y : A) (m : ℕ) → Got x n ≡ Got y m → (x ≡ y) × (n ≡ m)
got_is x n y m e = (cc, cc)

pub record Placed (bytes : List ℕ) (place : ℕ) (n : Node) (next : ℕ) : Type 0 where
  pub is : n ≡ node_in bytes place
  pub ends : next ≡ place + 12
  pub long : next ≤ length bytes

node_placed : (limit : Option ℕ) (highbit left floor : ℕ) (bytes : List ℕ) (place : ℕ) (n : Node) (next : ℕ) → node_at limit highbit left floor bytes place ≡ Got n next → Placed bytes place n next
unfolding node_at
node_placed limit highbit left floor bytes place n next e =
    let a = and_then_got (number_if BITMAP_STARTBIT 4 (start_test highbit floor (left == 0)) bytes place) (λ start m. and_then (number_if BITMAP_MAP 8 (map_test limit start) bytes m) (λ map k. Got (record { start = start; map = map }) k)) n next e in
    let b = and_then_got (number_if BITMAP_MAP 8 (map_test limit a.0) bytes a.1) (λ map k. Got (record { start = a.0; map = map }) k) n next a.3 in
    let made : Node = record { start = a.0; map = b.0 } in
    let g = got_is made b.1 n next b.3 in
    let p = number_if_is BITMAP_STARTBIT 4 (start_test highbit floor (left == 0)) bytes place a.0 a.1 a.2 in
    let q = number_if_is BITMAP_MAP 8 (map_test limit a.0) bytes a.1 b.0 b.1 b.2 in
    record {
      is = sym g.0 ∙ ap (λ (x : ℕ). record { start = x; map = b.0 }) p.0 ∙ ap (λ (x : ℕ). record { start = num bytes place 4; map = x }) (q.0 ∙ ap (λ (i : ℕ). num bytes i 8) p.1);
      ends = omega (arith, g.1, p.1, q.1);
      long = omega (arith, g.1, q.2);
    }

pub record AllPlaced (bytes : List ℕ) (place count : ℕ) (ns : List Node) (next : ℕ) : Type 0 where
  pub are : ns ≡ nodes_in bytes place count
  pub ends : next ≡ place + 12 * count
  pub long : place ≤ length bytes → next ≤ length bytes

pub list_placed : (limit : Option ℕ) (highbit count floor : ℕ) (bytes : List ℕ) (place : ℕ) (ns : List Node) (next : ℕ) → list_of (node_at limit highbit) floor_after count floor bytes place ≡ Got ns next → AllPlaced bytes place count ns next
unfolding list_of nodes_in
list_placed limit highbit zero floor bytes place ns next e =
    let g = got_is [] place ns next e in
    record { are = sym g.0; ends = omega (arith, g.1); long = λ le. omega (arith, g.1) }
list_placed limit highbit (suc count) floor bytes place ns next e =
    let a = and_then_got (node_at limit highbit count floor bytes place) (λ n m. and_then (list_of (node_at limit highbit) floor_after count (n.start + 1) bytes m) (λ ns k. Got (n ∷ ns) k)) ns next e in
    let b = and_then_got (list_of (node_at limit highbit) floor_after count (a.0.start + 1) bytes a.1) (λ ns k. Got (a.0 ∷ ns) k) ns next a.3 in
    let g = got_is (a.0 ∷ b.0) b.1 ns next b.3 in
    let p = node_placed limit highbit count floor bytes place a.0 a.1 a.2 in
    let q = list_placed limit highbit count (a.0.start + 1) bytes a.1 b.0 b.1 b.2 in
    record {
      are = sym g.0 ∙ ap (λ (n : Node). n ∷ b.0) p.is ∙ ap (λ (ms : List Node). node_in bytes place ∷ ms) (q.are ∙ ap (λ (i : ℕ). nodes_in bytes i count) p.ends);
      ends = omega (arith, g.1, p.ends, q.ends);
      long = λ le. omega (arith, g.1, q.long p.long);
    }

-- ---- the nodes that were read rise

-- a start at or above the floor is at or above the base
abbrev pub IsFloor : ℕ → ℕ → Type 0
IsFloor floor base = (s : ℕ) → s % 64 ≡ 0 → floor ≤ s → base ≤ s

pub unless_none : (b : Bool) (c : Cause) → unless b c ≡ None → b ≡ true
unless_none true c e = refl
unless_none false c e = absurd cc

map_full : (limit : Option ℕ) (start map : ℕ) → map_test limit start map ≡ None → 0 < map
map_full limit start zero e = absurd cc
map_full limit start (suc map) e = omega arith

pub node_tests : (limit : Option ℕ) (highbit left floor : ℕ) (bytes : List ℕ) (place : ℕ) (n : Node) (next : ℕ) → node_at limit highbit left floor bytes place ≡ Got n next → (n.start % 64 ≡ 0) × (floor ≤ n.start) × (0 < n.map)
unfolding node_at
node_tests limit highbit left floor bytes place n next e =
    let a = and_then_got (number_if BITMAP_STARTBIT 4 (start_test highbit floor (left == 0)) bytes place) (λ start m. and_then (number_if BITMAP_MAP 8 (map_test limit start) bytes m) (λ map k. Got (record { start = start; map = map }) k)) n next e in
    let b = and_then_got (number_if BITMAP_MAP 8 (map_test limit a.0) bytes a.1) (λ map k. Got (record { start = a.0; map = map }) k) n next a.3 in
    let made : Node = record { start = a.0; map = b.0 } in
    let g = got_is made b.1 n next b.3 in
    let p = number_if_is BITMAP_STARTBIT 4 (start_test highbit floor (left == 0)) bytes place a.0 a.1 a.2 in
    let q = number_if_is BITMAP_MAP 8 (map_test limit a.0) bytes a.1 b.0 b.1 b.2 in
    let t = and_parts _ _ (unless_none _ BadStart p.3) in
    let u = and_parts _ _ t.0 in
    let above : floor ≤ a.0 = leb-true _ _ u.1 in
    let full : 0 < b.0 = map_full limit a.0 b.0 q.3 in
    subst (λ (m : Node). (m.start % 64 ≡ 0) × (floor ≤ m.start) × (0 < m.map)) g.0 (eqb-true _ _ u.0, above, omega arith)

pub list_rising : (limit : Option ℕ) (highbit count floor base : ℕ) (bytes : List ℕ) (place : ℕ) (ns : List Node) (next : ℕ) → IsFloor floor base → list_of (node_at limit highbit) floor_after count floor bytes place ≡ Got ns next → IsRisingFrom base ns
unfolding list_of
list_rising limit highbit zero floor base bytes place ns next low e = subst (IsRisingFrom base) (got_is [] place ns next e).0 tt
list_rising limit highbit (suc count) floor base bytes place ns next low e =
    let a = and_then_got (node_at limit highbit count floor bytes place) (λ n m. and_then (list_of (node_at limit highbit) floor_after count (n.start + 1) bytes m) (λ ns k. Got (n ∷ ns) k)) ns next e in
    let b = and_then_got (list_of (node_at limit highbit) floor_after count (a.0.start + 1) bytes a.1) (λ ns k. Got (a.0 ∷ ns) k) ns next a.3 in
    let g = got_is (a.0 ∷ b.0) b.1 ns next b.3 in
    let t = node_tests limit highbit count floor bytes place a.0 a.1 a.2 in
    let rest = list_rising limit highbit count (a.0.start + 1) (a.0.start + 64) bytes a.1 b.0 b.1 (λ s m le. omega (arith, t.0, m)) b.2 in
    subst (IsRisingFrom base) g.0 (low a.0.start t.0 t.1, t.0, t.2, rest)

-- ---- the nodes that stand there

pub length_nodes_in : (bytes : List ℕ) (place n : ℕ) → length (nodes_in bytes place n) ≡ n
unfolding nodes_in
length_nodes_in bytes place zero = refl
length_nodes_in bytes place (suc n) = ap suc (length_nodes_in bytes (place + 12) n)

pub get_nodes_in : (bytes : List ℕ) (place n i : ℕ) → i < n → slice_get (nodes_in bytes place n) i ≡ Some (node_in bytes (place + 12 * i))
unfolding nodes_in
get_nodes_in bytes place zero i lt = absurd (omega arith)
get_nodes_in bytes place (suc n) zero lt = ap (λ (p : ℕ). Some (node_in bytes p)) (omega arith)
get_nodes_in bytes place (suc n) (suc i) lt =
    let e : place + 12 * suc i ≡ place + 12 + 12 * i = omega arith in
    rw e (get_nodes_in bytes (place + 12) n i (omega arith))
