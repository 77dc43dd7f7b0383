-- Where a context ends.
use Rattle.std.proofs.Common.{◌≡◌, ℕ, ◌+◌, ◌*◌, ◌≤◌, Bool, true, false, Some, None, List, length, refl, arith}
use Rattle.pol_fields.specs.declared.limits.TheConstants.{MAX_POLICY_BYTES}
use Rattle.std.specs.Prelude.{if◌then◌else◌}
use Rattle.pol_cursor.specs.Parts.{num}
use Rattle.pol_bitmap.specs.Nodes.{bitmap_in, bitmap_size, HasBitmap}
use Rattle.pol_bitmap.proofs.NodePlaces.{length_nodes_in}
use Rattle.pol_mls.specs.RangeRecord.{range_in, range_length, range_end, high_length, has_high, low_place, HasBitmapIf, HasRange}
use Rattle.pol_mls.specs.ContextRecord.{context_in, context_length, context_end, HasContext}

-- a range whose low bitmap stands there
range_ends_by : (two : Bool) (bytes : List ℕ) (place low : ℕ) → low ≡ (if two then place + 12 else place + 8) → HasBitmap bytes low → HasBitmapIf two bytes (low + bitmap_size bytes low)
    → (place + (20 + 12 * length (bitmap_in bytes low) + high_length (if two then Some (record { sens = num bytes (place + 8) 4; categories = bitmap_in bytes (low + bitmap_size bytes low) }) else None)) ≡ low + bitmap_size bytes low + (if two then bitmap_size bytes (low + bitmap_size bytes low) else 0))
    × (low + bitmap_size bytes low + (if two then bitmap_size bytes (low + bitmap_size bytes low) else 0) ≤ length bytes)
range_ends_by true bytes place low e h k =
    let high = low + bitmap_size bytes low in
    (omega (arith, e, length_nodes_in bytes (low + 12) (num bytes (low + 8) 4), length_nodes_in bytes (high + 12) (num bytes (high + 8) 4)), omega (arith, k.0))
range_ends_by false bytes place low e h k =
    (omega (arith, e, length_nodes_in bytes (low + 12) (num bytes (low + 8) 4)), omega (arith, h.0))

range_ends : (bytes : List ℕ) (place : ℕ) → HasRange bytes place → (place + range_length (range_in bytes place) ≡ range_end bytes place) × (range_end bytes place ≤ length bytes)
range_ends bytes place h = range_ends_by (has_high bytes place) bytes place (low_place bytes place) refl h.1 h.2

pub context_ends : (bytes : List ℕ) (place : ℕ) → HasContext bytes place → (place + context_length (context_in bytes place) ≡ context_end bytes place) × (context_end bytes place ≤ length bytes) × (length bytes ≤ MAX_POLICY_BYTES)
context_ends bytes place h =
    let ends = range_ends bytes (place + 12) h in
    (omega (arith, ends.0), ends.1, h.1.1)
