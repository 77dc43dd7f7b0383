-- The type map: for each type value, from 1 on, the bitmap of the types and attributes that the type is (libsepol's type_attr_map).
use Rattle.std.specs.Prelude.{ℕ, Some, List}
use Rattle.pol_cursor.specs.Outcome.{Reader}
use Rattle.pol_cursor.specs.References.{Placed}
use Rattle.pol_cursor.specs.Contexts.{records_after}
use Rattle.pol_bitmap.specs.declared.Node.{Node}
use Rattle.pol_bitmap.specs.Bitmap.{bitmap_at}

-- the rows, as many as there are type values; no bit is at or above that number (this project's profile)
unfoldable pub type_rows_at : ℕ → Reader (List (Placed (List Node)))
type_rows_at nprim = records_after (λ nprim. bitmap_at (Some nprim)) (λ nprim row. nprim) nprim nprim
