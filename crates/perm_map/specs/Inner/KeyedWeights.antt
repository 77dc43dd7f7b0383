-- The entries that a map keeps: one for each class and permission.
use Rattle.std.specs.Prelude.{ℕ, List, map, reverse}
use Rattle.perm_map.specs.declared.direction.Direction.{Direction}
use Rattle.perm_map.specs.declared.map.Key.{Key}
use Rattle.perm_map.specs.PermissionMap.{Entry}

abbrev pub entry_kept : Key × (Direction × ℕ) → Entry
entry_kept kept = record { class = kept.0.class.now; permission = kept.0.permission.now; direction = kept.1.0; weight = kept.1.1 }

-- the entries of the keys, the last first
abbrev pub entries_kept : List (Key × (Direction × ℕ)) → List Entry
entries_kept kept = reverse (map entry_kept kept)
