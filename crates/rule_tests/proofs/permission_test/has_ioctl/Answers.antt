use Rattle.std.proofs.Common.{◌∙◌, Bor, List, ℕ, sym}
use Rattle.rule_tests.proofs.ClassPermissions.{equal_there, equal_not, subset_is, shares_is}
use Rattle.rule_tests.proofs.permission_test.has_ioctl.Goals as goal

pub returns-then-is_one_of : goal.returns-then-is_one_of
returns-then-is_one_of c = rw c.in-Equal.is (equal_there (λ (name : Bor (List ℕ)). name.now) c.args.names.now c.all_ioctl.result (sym c.is_one_of.ensures ∙ c.if-is_one_of.true) c.all_ioctl.ensures)

pub returns-else-is_one_of : goal.returns-else-is_one_of
returns-else-is_one_of c = rw c.in-Equal.is (equal_not (λ (name : Bor (List ℕ)). name.now) c.args.names.now c.is_one_of.result c.is_one_of.ensures c.if-is_one_of.false)

pub returns-in-Subset : goal.returns-in-Subset
returns-in-Subset c = rw c.in-Subset.is (subset_is (λ (name : Bor (List ℕ)). name.now) c.args.names.now c.all_ioctl-in-Subset.result c.all_ioctl-in-Subset.ensures)

pub returns-in_default : goal.returns-in_default
returns-in_default c = shares_is c.args.mode (λ (name : Bor (List ℕ)). name.now) c.args.names.now c.any_ioctl.result c.in_default.not-Equal c.in_default.not-Subset c.any_ioctl.ensures
