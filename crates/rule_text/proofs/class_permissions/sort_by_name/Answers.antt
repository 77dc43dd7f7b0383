use Rattle.std.proofs.Common.{ap, refl, is_lt, rules}
use Rattle.std.proofs.lemmas.Cmp.{nat_list_cmp_total}
use Rattle.std.proofs.lemmas.Fn.{always_returns_same}
use Rattle.std.proofs.lemmas.List.MinMax.{ranks_by}
use Rattle.pol_symtab.specs.SymbolTables.{is_below}
use Rattle.rule_text.proofs.class_permissions.sort_by_name.Goals as goal

pub returns-clause-rise : goal.returns-clause-rise
returns-clause-rise c = c.sort_unstable_by.ensures.sorted (λ p q. is_below p.name q.name) (ranks_by nat_list_cmp_total (λ p. p.name))
    (always_returns_same _ _ _ (λ a r f' h. (ap is_lt (search rules), refl)))
