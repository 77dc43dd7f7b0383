use Rattle.std.proofs.Common.{ℕ, ◌<◌, length}
use Rattle.std.proofs.lemmas.List.Sorted.{All-permutation, IsPermutation-sym}
use Rattle.pol_read.specs.StoredRules.{stored_rules}
use Rattle.rule_order.proofs.SortedNumbers.{are_declared, rearranged}
use Rattle.rule_order.proofs.laws.rules_have_one_order.Goals as goal

pub returns : goal.returns
returns c xs ys are moved =
    let policy = c.args.policy.now in
    rearranged policy xs ys (are_declared c.is_accepted.ensures.accepted.0 policy c.is_accepted.ensures.accepted.1) are (All-permutation (λ (n : ℕ). n < length (stored_rules policy)) xs ys moved are) (IsPermutation-sym xs ys moved)
