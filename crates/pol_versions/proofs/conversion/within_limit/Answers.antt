use Rattle.std.proofs.Common.{◌≡◌, true, false, nat_lt, length, refl, sym, ap, ◌∙◌, arith}
use Rattle.std.proofs.lemmas.Bool.{lt-ltb, ltb-true}
use Rattle.pol_fields.specs.declared.limits.TheConstants.{MAX_POLICY_BYTES}
use Rattle.pol_tree.specs.TreeSpelling.{spell}
use Rattle.pol_versions.specs.Conversion.{too_long}
use Rattle.pol_versions.proofs.TreeLengths.{count_stops}
use Rattle.pol_versions.proofs.conversion.within_limit.Goals as goal

pub returns-then-branch : goal.returns-then-branch
unfolding too_long
returns-then-branch c =
    let bytes = length (spell c.args.tree) in
    let long : nat_lt MAX_POLICY_BYTES bytes ≡ true = sym (count_stops bytes) ∙ sym (ap (λ n. nat_lt MAX_POLICY_BYTES n) c.in_ok-tree_length.ensures) ∙ lt-ltb MAX_POLICY_BYTES _ c.if-branch.true in
    rw long refl

pub returns : goal.returns
unfolding too_long
returns c =
    let bytes = length (spell c.args.tree) in
    let counted = c.in_ok-tree_length.field-0 in
    let fits : nat_lt MAX_POLICY_BYTES counted ≡ false = grind (arith, ltb-true, c.if-branch.false) in
    let short : nat_lt MAX_POLICY_BYTES bytes ≡ false = sym (count_stops bytes) ∙ sym (ap (λ n. nat_lt MAX_POLICY_BYTES n) c.in_ok-tree_length.ensures) ∙ fits in
    rw short (refl, refl)
