use Rattle.std.proofs.Common.{◌≡◌, ◌+◌, ◌∙◌, List, nat_lt, length, ap}
use Rattle.pol_bitmap.specs.declared.Node.{Node}
use Rattle.pol_fields.specs.declared.limits.TheConstants.{MAX_POLICY_BYTES}
use Rattle.pol_trans.specs.declared.NameTransRec.{NameTransRec}
use Rattle.pol_trans.specs.declared.NameGroupRec.{NameGroupRec}
use Rattle.pol_convert.specs.Ungrouped.{entries_length, ungrouped}
use Rattle.pol_tree.specs.declared.Tree.{Tree}
use Rattle.pol_tree.specs.TreeSpelling.{spell}
use Rattle.pol_versions.specs.Conversion.{values_of_types}
use Rattle.pol_versions.specs.Inner.Steps.{bare}
use Rattle.pol_versions.proofs.TreeLengths.{with_them_too_long}
use Rattle.pol_versions.proofs.conversion.with_entries.Goals as goal

pub returns-then-long : goal.returns-then-long
returns-then-long c =
    let tree = c.args.tree in
    let declared = c.in_ok-declared.declared in
    let values : declared ≡ values_of_types tree.types = c.in_ok-declared.ensures ∙ ap values_of_types c.as_slice.ensures in
    let said : c.in_ok-long.long ≡ nat_lt MAX_POLICY_BYTES (length (spell (bare tree)) + entries_length (ungrouped declared tree.namegroup)) =
    c.in_ok-long.ensures
    ∙ ap (λ (t : Tree). nat_lt MAX_POLICY_BYTES (length (spell t) + entries_length (ungrouped declared c.as_slice-2.result.now))) c.without_names-tree.ensures.tree
    ∙ ap (λ (gs : List NameGroupRec). nat_lt MAX_POLICY_BYTES (length (spell (bare tree)) + entries_length (ungrouped declared gs))) (c.as_slice-2.ensures ∙ c.without_names-tree.ensures.groups) in
    rw c.if-long.true at (with_them_too_long tree declared c.in_ok-long.long c.requires values said)

pub returns : goal.returns
returns c =
    let tree = c.args.tree in
    let declared = c.in_ok-declared.declared in
    let values : declared ≡ values_of_types tree.types = c.in_ok-declared.ensures ∙ ap values_of_types c.as_slice.ensures in
    let said : c.in_ok-long.long ≡ nat_lt MAX_POLICY_BYTES (length (spell (bare tree)) + entries_length (ungrouped declared tree.namegroup)) =
    c.in_ok-long.ensures
    ∙ ap (λ (t : Tree). nat_lt MAX_POLICY_BYTES (length (spell t) + entries_length (ungrouped declared c.as_slice-2.result.now))) c.without_names-tree.ensures.tree
    ∙ ap (λ (gs : List NameGroupRec). nat_lt MAX_POLICY_BYTES (length (spell (bare tree)) + entries_length (ungrouped declared gs))) (c.as_slice-2.ensures ∙ c.without_names-tree.ensures.groups) in
    let list : c.from_vec.result ≡ ungrouped (values_of_types tree.types) tree.namegroup =
    c.from_vec.ensures ∙ c.in_ok-ungroup.ensures ∙ ap (λ (gs : List NameGroupRec). ungrouped declared gs) (c.as_slice-3.ensures ∙ c.without_names-tree.ensures.groups) ∙ ap (λ (d : List Node). ungrouped d tree.namegroup) values in (
      rw c.if-long.false at (with_them_too_long tree declared c.in_ok-long.long c.requires values said),
      ap (λ (t : Tree). record t { nametrans = c.from_vec.result }) c.without_names-tree.ensures.tree ∙ ap (λ (ns : List NameTransRec). record (bare tree) { nametrans = ns }) list,
    )
