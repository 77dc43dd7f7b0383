use Rattle.std.proofs.Common.{◌≡◌, Option, Some, None, ◌∙◌, sym, refl, rules, tests}
use Rattle.std.specs.Prelude.{bytes_eq, option_map}
use Rattle.std.proofs.lemmas.Iterator.Search.{find_from_yields_List}
use Rattle.std.proofs.lemmas.Iterator.Consumers.{YieldsList-from_first}
use Rattle.pol_commons.proofs.permission_list.PermissionList.of_name.Goals as goal

option_same : {A : Type 0} (o : Option A) → option_map (λ x. x) o ≡ o
option_same None = refl
option_same (Some x) = refl

pub returns : goal.returns
returns c =
    sym (option_same c.find.result)
    ∙ find_from_yields_List (λ p. bytes_eq c.args.name.now p.name) _ _ c.find.result c.find.ensures.ran (YieldsList-from_first (λ x. x) (λ rest. rest) c.args.self.now c.iter.ensures) (λ x b q k. search (rules, tests))
