-- The lines of a policy's capabilities, which a policy has as numbers (libsepol's polcaps.c).
use Rattle.std.specs.Prelude.{ℕ, Bool, true, false, Option, List, [], ◌∷◌, ◌++◌, map, decimal, codes, slice_get, unwrap_or}
use Rattle.pol_bitmap.specs.Nodes.{bits_of}
use Rattle.pol_file.specs.declared.parts.Parts.{Parts}
use Rattle.info_contexts.specs.NamedEntries.{of_name}

-- the names of the capabilities from 0 on
abbrev pub known_names : List (List ℕ)
known_names =
    codes "network_peer_controls" ∷ codes "open_perms" ∷ codes "extended_socket_class" ∷ codes "always_check_network" ∷
    codes "cgroup_seclabel" ∷ codes "nnp_nosuid_transition" ∷ codes "genfs_seclabel_symlinks" ∷ codes "ioctl_skip_cloexec" ∷ []

-- the name of a capability, which is its number where it has no name of its own
unfoldable pub capability_name : ℕ → List ℕ
capability_name number = unwrap_or (slice_get known_names number) (codes "capability_" ++ decimal number)

-- the name alone, or expanded, policycap NAME;
unfoldable pub capability_line : Bool → ℕ → List ℕ
capability_line false number = capability_name number
capability_line true number = codes "policycap " ++ capability_name number ++ codes ";"

-- one for each capability of the policy, in the order of the numbers: those that are printed with the name, or all where none
-- is given
abbrev pub capability_listing : Parts → Bool → Option (List ℕ) → List (List ℕ)
capability_listing policy expand name = map (capability_line expand) (of_name capability_name name (bits_of policy.front.capabilities))
