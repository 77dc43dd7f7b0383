-- The entries of a policy's capabilities: a capability is there or not.
use Rattle.std.specs.Prelude.{ℕ, false, None, List, [], ◌∷◌, ◌++◌, codes, map}
use Rattle.pol_file.specs.declared.parts.Parts.{Parts}
use Rattle.info_query.specs.Capabilities.{capability_listing}
use Rattle.diff_entries.specs.Entries.{Entry}

-- the entry of the capability that is printed with a name: policycap NAME;
unfoldable pub capability_entry : List ℕ → Entry
capability_entry name = record { key = name ∷ []; parts = []; statement = codes "policycap " ++ name ++ codes ";"; head = codes "policycap " ++ name }

-- the entries of all capabilities of a policy, in the order of their numbers
abbrev pub capability_entries : Parts → List Entry
capability_entries policy = map capability_entry (capability_listing policy false None)
