use Rattle.std.proofs.Common.{◌≡◌, ℕ, List, IfOk, ap, sym, subst, ◌∙◌}
use Rattle.std.specs.List.{All, filter, list_any, range_with_len}
use Rattle.pol_bitmap.specs.declared.Node.{Node}
use Rattle.pol_bitmap.specs.Nodes.{bits_of}
use Rattle.pol_expand.specs.Inner.StoredEnds.{IsEnd}
use Rattle.pol_expand.specs.JoinedTypes.{holds_type}
use Rattle.rules_between.proofs.ByOneEnd.{expanded}
use Rattle.se_checker.proofs.executables.targets_of.Goals as goal

pub types_of-requires-clause-ends : goal.types_of-requires-clause-ends
types_of-requires-clause-ends c = subst (λ (ends : List ℕ). All (IsEnd c.args.policy.now) ends) (sym c.values.ensures.values) c.in_ok-ends.ensures.are

pub returns : goal.returns
returns c =
    let policy = c.args.policy.now in
    subst (λ (xs : List ℕ). IfOk c.types_of.result (λ (set : List Node). bits_of set ≡ xs))
    (ap (λ (es : List ℕ). filter (λ type. list_any (λ end. holds_type policy end type) es) (range_with_len 1 policy.symbols.types.nprim)) c.values.ensures.values ∙ expanded policy c.args.numbers.now c.in_ok-ends.ends.values c.in_ok-ends.ensures)
    c.types_of.ensures
