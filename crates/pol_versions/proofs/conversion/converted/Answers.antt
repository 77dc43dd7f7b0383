use Rattle.std.proofs.Common.{◌≡◌, ◌≤◌, true, false, Bool, All, sym, subst, ap, ◌∙◌, refl}
use Rattle.std.proofs.lemmas.Bool.{false≢true}
use Rattle.pol_trans.specs.NameTransitions.{has_groups}
use Rattle.pol_tree.specs.declared.Tree.{Tree}
use Rattle.pol_versions.specs.Conversion.{converted, too_long, tree_at, with_entries, with_groups, with_names, Converts}
use Rattle.pol_versions.proofs.DeclaredSources.{sources_from_one}
use Rattle.pol_versions.proofs.conversion.converted.Goals as goal
use Rattle.pol_versions.proofs.conversion.converted.Goals.{else-grouped-via-then-grouped+else-not-has_groups, else-grouped-via-else-grouped, else-not-grouped-via-then-not-grouped+else-has_groups, else-not-grouped-via-else-not-grouped}

same_names : (tree : Tree) (before after : Bool) → before ≡ after → tree ≡ with_names before after tree
same_names tree true true e = refl
same_names tree false false e = refl
same_names tree true false e = absurd cc
same_names tree false true e = absurd cc

pub with_entries-requires : goal.with_entries-requires
with_entries-requires c = subst (λ (t : Tree). has_groups t.version ≡ false) (sym c.in_ok-tree.ensures) (sym c.has_groups.ensures ∙ c.if-not-has_groups.true)

pub with_groups-requires : goal.with_groups-requires
with_groups-requires c = subst (λ (t : Tree). All (λ entry. 1 ≤ entry.source) t.nametrans) (sym c.in_ok-tree.ensures) (sources_from_one c.args.tree c.requires)

pub returns-then-not-has_groups : goal.returns-then-not-has_groups
unfolding converted
returns-then-not-has_groups c =
    let tree = c.args.tree in
    let version = c.args.version in
    let new : with_entries c.in_ok-tree.tree ≡ converted tree version =
    ap with_entries c.in_ok-tree.ensures
    ∙ ap (λ (b : Bool). with_names b false (tree_at version tree)) (sym (sym c.has_groups-grouped.ensures ∙ c.if-grouped.true))
    ∙ ap (λ (b : Bool). with_names (has_groups tree.version) b (tree_at version tree)) (sym (sym c.has_groups.ensures ∙ c.if-not-has_groups.true)) in
    subst (λ (t : Tree). Converts (too_long t) t c.with_entries.result) new c.with_entries.ensures

pub returns-then-has_groups : goal.returns-then-has_groups
unfolding converted
returns-then-has_groups c =
    let tree = c.args.tree in
    let version = c.args.version in
    let new : c.in_ok-with_groups.field-0 ≡ converted tree version =
    c.in_ok-with_groups.ensures
    ∙ ap with_groups c.in_ok-tree.ensures
    ∙ ap (λ (b : Bool). with_names b true (tree_at version tree)) (sym (sym c.has_groups-grouped.ensures ∙ c.if-not-grouped.true))
    ∙ ap (λ (b : Bool). with_names (has_groups tree.version) b (tree_at version tree)) (sym (sym c.has_groups-then-not-grouped.ensures ∙ c.if-has_groups.true)) in
    subst (λ (t : Tree). Converts (too_long t) t c.within_limit.result) new c.within_limit.ensures

pub returns : goal.returns
unfolding converted
returns c =
    let tree = c.args.tree in
    let version = c.args.version in
    let same : has_groups tree.version ≡ has_groups version = elim c.else-grouped.branch [
      | else-grouped-via-then-grouped+else-not-has_groups w ↦ sym c.has_groups-grouped.ensures ∙ w.if-grouped.true ∙ sym w.if-not-has_groups.false ∙ w.has_groups.ensures
      | else-grouped-via-else-grouped w ↦ elim c.else-not-grouped.branch [
        | else-not-grouped-via-then-not-grouped+else-has_groups v ↦ sym c.has_groups-grouped.ensures ∙ v.if-not-grouped.true ∙ sym v.if-has_groups.false ∙ v.has_groups-then-not-grouped.ensures
        | else-not-grouped-via-else-not-grouped v ↦ absurd (false≢true (sym w.if-grouped.false ∙ v.if-not-grouped.false))
      ]
    ] in
    let new : c.in_ok-tree.tree ≡ converted tree version = c.in_ok-tree.ensures ∙ same_names (tree_at version tree) (has_groups tree.version) (has_groups version) same in
    subst (λ (t : Tree). Converts (too_long t) t c.within_limit-2.result) new c.within_limit-2.ensures
