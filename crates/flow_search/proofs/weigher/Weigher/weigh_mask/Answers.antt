use Rattle.std.proofs.Common.{sym, ap, subst, ◌∙◌, ◌<◌, length, List, [], slice_index_or}
use Rattle.pol_fields.specs.declared.TableKind.TheVariants.{Classes}
use Rattle.pol_symbols.specs.declared.Symbols.{Symbols}
use Rattle.pol_symbols.specs.PolicySymbols.{index_in}
use Rattle.pol_file.specs.declared.Parts.{Parts}
use Rattle.perm_map.specs.PermissionMap.{weights_of}
use Rattle.flow_search.specs.declared.class_weights.PermissionWeight.{PermissionWeight}
use Rattle.flow_search.specs.FlowWeights.{inwards, outwards}
use Rattle.flow_search.specs.Inner.WeightTables.{Weighing, greatest_into, greatest_out}
use Rattle.flow_search.proofs.Weighing.{class_into, class_missing, class_out, class_within}
use Rattle.flow_search.proofs.weigher.Weigher.weigh_mask.Goals as goal

pub greatest_at-requires : goal.greatest_at-requires
greatest_at-requires c =
    subst (λ (lists : List (List PermissionWeight)). c.in-Some.i < length lists) (sym c.deref.ensures.value) (class_within (weights_of c.self.inside.map.now) c.self.inside.rules.policy.symbols c.self.inside.classes.items c.self.invariant c.args.class c.args.mask c.in-Some.i (sym (ap (λ (symbols : Symbols). index_in symbols Classes c.args.class) (c.symbols.ensures ∙ ap (λ (policy : Parts). policy.symbols) (c.policy.ensures ∙ ap (λ (w : Weighing). w.rules.policy) (sym c.self.view_is)))) ∙ sym c.in-Some.ensures))

pub returns-in-Some-clause-out : goal.returns-in-Some-clause-out
returns-in-Some-clause-out c = rw (← c.self.view_is) (
    c.greatest_at.ensures.out
    ∙ ap (λ (lists : List (List PermissionWeight)). greatest_out c.args.mask (slice_index_or lists c.in-Some.i [])) c.deref.ensures.value
    ∙ class_out (weights_of c.self.inside.map.now) c.self.inside.rules.policy.symbols c.self.inside.classes.items c.self.invariant c.args.class c.args.mask c.in-Some.i (sym (ap (λ (symbols : Symbols). index_in symbols Classes c.args.class) (c.symbols.ensures ∙ ap (λ (policy : Parts). policy.symbols) (c.policy.ensures ∙ ap (λ (w : Weighing). w.rules.policy) (sym c.self.view_is)))) ∙ sym c.in-Some.ensures))

pub returns-in-None-clause-out : goal.returns-in-None-clause-out
returns-in-None-clause-out c = rw (← c.self.view_is) (class_missing outwards (weights_of c.self.inside.map.now) c.self.inside.rules.policy.symbols c.args.class c.args.mask (sym (ap (λ (symbols : Symbols). index_in symbols Classes c.args.class) (c.symbols.ensures ∙ ap (λ (policy : Parts). policy.symbols) (c.policy.ensures ∙ ap (λ (w : Weighing). w.rules.policy) (sym c.self.view_is)))) ∙ sym c.in-None.ensures))

pub returns-in-Some-clause-into : goal.returns-in-Some-clause-into
returns-in-Some-clause-into c = rw (← c.self.view_is) (
    c.greatest_at.ensures.into
    ∙ ap (λ (lists : List (List PermissionWeight)). greatest_into c.args.mask (slice_index_or lists c.in-Some.i [])) c.deref.ensures.value
    ∙ class_into (weights_of c.self.inside.map.now) c.self.inside.rules.policy.symbols c.self.inside.classes.items c.self.invariant c.args.class c.args.mask c.in-Some.i (sym (ap (λ (symbols : Symbols). index_in symbols Classes c.args.class) (c.symbols.ensures ∙ ap (λ (policy : Parts). policy.symbols) (c.policy.ensures ∙ ap (λ (w : Weighing). w.rules.policy) (sym c.self.view_is)))) ∙ sym c.in-Some.ensures))

pub returns-in-None-clause-into : goal.returns-in-None-clause-into
returns-in-None-clause-into c = rw (← c.self.view_is) (class_missing inwards (weights_of c.self.inside.map.now) c.self.inside.rules.policy.symbols c.args.class c.args.mask (sym (ap (λ (symbols : Symbols). index_in symbols Classes c.args.class) (c.symbols.ensures ∙ ap (λ (policy : Parts). policy.symbols) (c.policy.ensures ∙ ap (λ (w : Weighing). w.rules.policy) (sym c.self.view_is)))) ∙ sym c.in-None.ensures))
