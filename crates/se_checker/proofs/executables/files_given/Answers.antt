use Rattle.std.proofs.Common.{◌≡◌, true, ℕ, List, IfOk, ap, sym, subst, ◌∙◌}
use Rattle.std.specs.List.{All}
use Rattle.std.specs.List.Sorted.{IsPermutation}
use Rattle.pol_bitmap.specs.declared.Node.{Node}
use Rattle.pol_bitmap.specs.Nodes.{bits_of}
use Rattle.pol_expand.specs.JoinedTypes.{is_between_types}
use Rattle.rules_between.specs.ChosenRules.{targets_of_rules}
use Rattle.text_rows.specs.TextLines.{fields_in}
use Rattle.se_checker.specs.Verdicts.{Asked, rules_asked}
use Rattle.se_checker.specs.Inner.FileTypes.{asked_of_files}
use Rattle.se_checker.proofs.GivenFiles.{found_between, same_targets}
use Rattle.se_checker.proofs.executables.files_given.Goals as goal

pub targets_of-requires-clause-rules : goal.targets_of-requires-clause-rules
targets_of-requires-clause-rules c =
    let policy = c.args.policy.now in
    subst (λ (xs : List ℕ). All (λ number. is_between_types policy number ≡ true) xs) (sym c.deref.ensures.value) (found_between policy c.asked_of_files-asked.result c.in_ok-numbers.numbers.items c.in_ok-numbers.ensures)

pub returns : goal.returns
returns c =
    let policy = c.args.policy.now in
    let asked = asked_of_files (fields_in c.args.exempt_domains.now) (fields_in c.args.exempt_files.now) (fields_in c.args.permissions.now) in
    let numbers = c.in_ok-numbers.numbers.items in
    let moved : IsPermutation numbers (rules_asked policy asked) = subst (λ (a : Asked). IsPermutation numbers (rules_asked policy a)) c.asked_of_files-asked.ensures c.in_ok-numbers.ensures in
    subst (λ (xs : List ℕ). IfOk c.targets_of.result (λ (set : List Node). bits_of set ≡ xs)) (ap (targets_of_rules policy) c.deref.ensures.value ∙ same_targets policy numbers (rules_asked policy asked) moved) c.targets_of.ensures
