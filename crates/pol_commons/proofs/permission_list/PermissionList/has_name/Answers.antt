use Rattle.std.proofs.Common.{◌∙◌, sym, rules, tests}
use Rattle.std.specs.Prelude.{bytes_eq}
use Rattle.std.proofs.lemmas.Iterator.Search.{any_from_yields_List}
use Rattle.std.proofs.lemmas.Iterator.Consumers.{YieldsList-from_first}
use Rattle.pol_commons.proofs.Claimed.{has_name_of}
use Rattle.pol_commons.proofs.permission_list.PermissionList.has_name.Goals as goal

pub returns : goal.returns
returns c =
    any_from_yields_List (λ p. bytes_eq c.args.name.now p.name) _ _ c.any.result c.any.ensures.ran (YieldsList-from_first (λ x. x) (λ rest. rest) c.args.self.now c.iter.ensures) (λ x b q k. search (rules, tests))
    ∙ sym (has_name_of c.args.self.now c.args.name.now)
