-- All rules between single types.
use Rattle.std.specs.Prelude.{ℕ, ◌*◌, List, [], ◌∷◌, length, map}
use Rattle.pol_fields.specs.declared.TableKind.{TableKind}
use Rattle.pol_fields.specs.declared.TableKind.TheVariants.{Types}
use Rattle.pol_file.specs.declared.Parts.{Parts}
use Rattle.pol_expand.specs.PolicyMap.{expand}
use Rattle.set_products.specs.declared.Single.{Single}
use Rattle.set_products.specs.Members.{single_rules}
use Rattle.pol_read.specs.RuleKinds.{source_table, target_table}
use Rattle.pol_read.specs.StoredRules.{StoredRule, stored_rules}

-- what an end of a table stands for: a type or an attribute for the types that it expands to, and a role for itself
abbrev pub types_of_end : Parts → TableKind → ℕ → List ℕ
types_of_end policy Types value = expand policy value
types_of_end policy other value = value ∷ []

-- what the source and the target of a rule stand for
abbrev pub expansions_of : Parts → StoredRule → List ℕ × List ℕ
expansions_of policy rule = (types_of_end policy (source_table rule.kind) rule.source, types_of_end policy (target_table rule.kind) rule.target)

-- how many sources with how many targets that is
abbrev pub pairs_of : Parts → StoredRule → ℕ
pairs_of policy rule = length (expansions_of policy rule).0 * length (expansions_of policy rule).1

-- the rules between single types that the stored rules of a policy stand for
unfoldable pub singles_of : Parts → List Single
singles_of policy = single_rules (map (expansions_of policy) (stored_rules policy))
