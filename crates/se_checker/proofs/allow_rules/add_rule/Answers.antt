use Rattle.std.proofs.Common.{◌≡◌, ◌<◌, true, [], Some, None, length, sym, ap, refl, ◌∙◌, arith}
use Rattle.std.proofs.lemmas.List.{get_or_default}
use Rattle.pol_fields.specs.declared.TableKind.TheVariants.{Classes}
use Rattle.pol_classes.specs.declared.ClassRec.{ClassRec}
use Rattle.pol_symbols.specs.declared.Symbols.{Symbols}
use Rattle.pol_symbols.specs.PolicySymbols.{index_in}
use Rattle.pol_symbols.proofs.SymbolSearch.{primary_is_within}
use Rattle.pol_read.specs.StoredRules.{stored}
use Rattle.se_checker.specs.Verdicts.{allow_mask}
use Rattle.se_checker.proofs.AllowedRules.{gathered, no_class, no_mask, none_added}
use Rattle.se_checker.proofs.allow_rules.add_rule.Goals as goal

pub index_mut-requires : goal.index_mut-requires
index_mut-requires c =
    let symbols = c.args.policy.now.symbols in
    let is : index_in symbols Classes c.rule-rule.result.class ≡ Some c.in-Some-by_value.place = sym (ap (λ (s : Symbols). index_in s Classes c.rule-rule.result.class) c.symbols.ensures) ∙ sym c.by_value.ensures ∙ c.in-Some-by_value.is in
    omega (arith, c.args.classes.now.ok, c.requires.before.long, primary_is_within (λ (class : ClassRec). true) (λ (class : ClassRec). class.value) symbols.classes.records c.rule-rule.result.class c.in-Some-by_value.place is)

pub returns-in-Some-by_value : goal.returns-in-Some-by_value
returns-in-Some-by_value c =
    let policy = c.args.policy.now in
    let rule = stored c.rule-rule.result in
    let classes = c.args.classes.now.items in
    let place = c.in-Some-by_value.place in
    let is : index_in policy.symbols Classes rule.class ≡ Some place = sym (ap (λ (s : Symbols). index_in s Classes rule.class) c.symbols.ensures) ∙ sym c.by_value.ensures ∙ c.in-Some-by_value.is in
    let given : allow_mask rule.kind rule.part ≡ Some c.in-Some.mask = sym c.allow_mask.ensures ∙ c.in-Some.is in
    let lt : place < length classes = omega (arith, c.requires.before.long, primary_is_within (λ (class : ClassRec). true) (λ (class : ClassRec). class.value) policy.symbols.classes.records rule.class place is) in
    gathered policy c.args.number place c.in-Some.mask rule _ classes c.index_mut.result.now c.push.new.self c.push.result c.rule-rule.ensures.is given is lt refl (c.index_mut.ensures.value ∙ get_or_default classes place c.index_mut.result.now [] lt) c.requires.before c.push.ensures

pub returns-in-None-by_value : goal.returns-in-None-by_value
returns-in-None-by_value c =
    let policy = c.args.policy.now in
    let rule = stored c.rule-rule.result in
    let is : index_in policy.symbols Classes rule.class ≡ None = sym (ap (λ (s : Symbols). index_in s Classes rule.class) c.symbols.ensures) ∙ sym c.by_value.ensures ∙ c.in-None-by_value.is in
    none_added policy c.args.number c.args.classes.now.items (no_class policy c.args.number rule c.in-Some.mask c.rule-rule.ensures.is (sym c.allow_mask.ensures ∙ c.in-Some.is) is) c.requires.before

pub returns-in-None : goal.returns-in-None
returns-in-None c =
    none_added c.args.policy.now c.args.number c.args.classes.now.items (no_mask c.args.policy.now c.args.number (stored c.rule-rule.result) c.rule-rule.ensures.is (sym c.allow_mask.ensures ∙ c.in-None.is)) c.requires.before
