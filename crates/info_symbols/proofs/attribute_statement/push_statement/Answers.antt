use Rattle.std.proofs.Common.{◌≡◌, ◌++◌, List, ℕ, Bor, OnOk, map, sym, ap, subst, ◌∙◌}
use Rattle.pol_fields.specs.declared.TableKind.TheVariants.{Types}
use Rattle.info_lines.specs.NameSets.{names_of_values}
use Rattle.pol_expand.specs.PolicyMap.{expand}
use Rattle.info_symbols.specs.AttributeStatement.{statement_text}
use Rattle.info_symbols.proofs.Attributes.{attribute_value, statement_at}
use Rattle.info_symbols.proofs.attribute_statement.push_statement.Goals as goal

pub names_with-requires-clause-attribute : goal.names_with-requires-clause-attribute
names_with-requires-clause-attribute c =
    rw c.value.ensures (attribute_value c.args.policy.now c.args.number c.type_record-attribute.result c.requires.attribute c.type_record-attribute.ensures.is c.type_record-attribute.ensures.value)

pub returns-clause-text : goal.returns-clause-text
returns-clause-text c =
    let parts = c.args.policy.now in
    let t = c.type_record-attribute.result in
    let names = ap (map (λ (name : Bor (List ℕ)). name.now)) c.deref.ensures.value ∙ c.in_ok-names.ensures.names ∙ ap (λ (value : ℕ). names_of_values parts.symbols Types (expand parts value)) c.value.ensures in
    let line = ap (λ (name : List ℕ). statement_text name (map (λ (name : Bor (List ℕ)). name.now) c.deref.result.now)) c.name.ensures ∙ ap (statement_text t.value.name) names ∙ sym (statement_at parts c.args.number t c.type_record-attribute.ensures.is) in
    subst (λ (line : List ℕ). OnOk c.push_attribute_statement.result (c.push_attribute_statement.new.buffer.items ≡ c.args.buffer.now.items ++ line)) line c.push_attribute_statement.ensures
