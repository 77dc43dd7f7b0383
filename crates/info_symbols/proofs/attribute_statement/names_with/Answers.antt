use Rattle.std.proofs.Common.{◌≡◌, List, ℕ, Some, IfOk, slice_get, map, inl, sym, subst, ap, ◌∙◌}
use Rattle.pol_bitmap.specs.declared.Node.{Node}
use Rattle.pol_bitmap.specs.Nodes.{bits_of}
use Rattle.std.specs.List.{Contains}
use Rattle.pol_expand.specs.Expansion.{IsDeclared}
use Rattle.pol_fields.specs.declared.TableKind.TheVariants.{Types}
use Rattle.pol_symbols.specs.declared.symbols.Symbols.{Symbols}
use Rattle.info_lines.specs.NameSets.{names_of_values}
use Rattle.pol_expand.proofs.PolicyMaps.{members_are}
use Rattle.info_symbols.proofs.Attributes.{grown_map}
use Rattle.info_symbols.proofs.attribute_statement.names_with.Goals as goal

pub returns-clause-map : goal.returns-clause-map
returns-clause-map c = grown_map c.args.policy.now c.args.types.now c.members.new.self c.in_ok-number.ensures.same c.requires.map

pub returns-clause-names : goal.returns-clause-names
returns-clause-names c =
    let got : slice_get c.members.new.self.sets c.in_ok-number.number ≡ Some c.get.result.now = subst (λ (sets : List (List Node)). slice_get sets c.in_ok-number.number ≡ Some c.get.result.now) c.pool.ensures.sets c.get.ensures in
    let declared : IsDeclared c.args.types.now.attributes c.args.types.now.types c.args.attribute = inl (subst (λ (bits : List ℕ). Contains bits c.args.attribute) (sym c.requires.map.attributes) c.requires.attribute) in
    let values = members_are c.args.policy.now c.args.types.now c.members.new.self.sets c.args.attribute c.in_ok-number.number c.get.result.now c.requires.map declared c.in_ok-number.ensures.number got in
    let names = ap (λ (symbols : Symbols). names_of_values symbols Types (bits_of c.get.result.now)) c.symbols.ensures ∙ ap (names_of_values c.args.policy.now.symbols Types) values in
    subst (λ (listed : List (List ℕ)). IfOk c.names_of_set.result (λ names. map (λ name. name.now) names.items ≡ listed)) names c.names_of_set.ensures
