-- What a version of the format cannot hold of a policy (libsepol's avtab_write_item, cond_write_list and ocontext_write_selinux).
use Rattle.std.specs.Prelude.{ℕ, Bool, nat_lt, not, ◌&&◌, ◌||◌, Option, Some, None, true, false, List, [], ◌∷◌, is_some, if◌then◌else◌}
use Rattle.std.specs.List.{list_any}
use Rattle.pol_fields.specs.declared.codes.TheConstants.{POLICYDB_VERSION_XPERMS_IOCTL, POLICYDB_VERSION_COND_XPERMS}
use Rattle.pol_avtab.specs.declared.AvRec.{AvRec}
use Rattle.pol_avtab.specs.XPerms.{xperms_of}
use Rattle.pol_conditionals.specs.declared.CondNodeRec.{CondNodeRec}
use Rattle.pol_contexts.specs.ContextTables.{has_infiniband}
use Rattle.pol_tree.specs.declared.Tree.{Tree}
use Rattle.pol_unheld.specs.declared.Unheld.{Unheld}
use Rattle.pol_unheld.specs.declared.Unheld.TheVariants.{Extended, ConditionalExtended, Infiniband}

-- ---- extended access vectors

abbrev pub is_extended_rule : AvRec → Bool
is_extended_rule rule = is_some (xperms_of rule.part)

abbrev pub has_extended : List AvRec → Bool
has_extended rules = list_any is_extended_rule rules

-- some rule of a conditional node is extended
abbrev pub is_extended_node : CondNodeRec → Bool
is_extended_node node = has_extended node.true_rules || has_extended node.false_rules

abbrev pub has_extended_node : List CondNodeRec → Bool
has_extended_node nodes = list_any is_extended_node nodes

-- ---- a whole tree

abbrev pub is_there : {A : Type 0} → List A → Bool
is_there [] = false
is_there (x ∷ xs) = true

-- the first part of a tree that the version has no room for
abbrev pub lost_part : Tree → ℕ → Option Unheld
lost_part tree version =
    if nat_lt version POLICYDB_VERSION_XPERMS_IOCTL && (has_extended_node tree.condlist || has_extended tree.avtab) then Some Extended
    else if nat_lt version POLICYDB_VERSION_COND_XPERMS && has_extended_node tree.condlist then Some ConditionalExtended
    else if not (has_infiniband version) && (is_there tree.ibpkey || is_there tree.ibendport) then Some Infiniband
    else None
