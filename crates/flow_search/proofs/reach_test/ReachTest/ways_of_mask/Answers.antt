use Rattle.std.proofs.Common.{ℕ, length, leb, refl, sym, ap, ◌∙◌, arith}
use Rattle.std.proofs.lemmas.Option.{slice_get_read}
use Rattle.pol_fields.specs.declared.TableKind.TheVariants.{Classes}
use Rattle.pol_symbols.specs.declared.Symbols.{Symbols}
use Rattle.pol_symbols.specs.PolicySymbols.{index_in}
use Rattle.pol_file.specs.declared.Parts.{Parts}
use Rattle.perm_map.specs.PermissionMap.{weights_of}
use Rattle.flow_search.specs.FlowWeights.{inwards, outwards}
use Rattle.flow_search.proofs.Weighing.{class_missing, reach_into, reach_out, reach_within}
use Rattle.flow_search.proofs.reach_test.ReachTest.ways_of_mask.Goals as goal

pub index-requires : goal.index-requires
index-requires c = omega (arith, c.self.inside.classes.ok.0, reach_within (weights_of c.self.inside.weigher.now.entries) c.self.inside.weigher.now.rules.policy.symbols c.self.inside.least c.self.inside.classes.items c.self.invariant c.args.class c.in-Some.i (sym (c.in-Some.ensures ∙ ap (λ (symbols : Symbols). index_in symbols Classes c.args.class) (c.symbols.ensures ∙ ap (λ (policy : Parts). policy.symbols) c.policy.ensures))))

pub returns-in-Some-clause-out : goal.returns-in-Some-clause-out
returns-in-Some-clause-out c = rw (← c.self.view_is) (
    c.shared.ensures.out
    ∙ reach_out (weights_of c.self.inside.weigher.now.entries) c.self.inside.weigher.now.rules.policy.symbols c.self.inside.least c.self.inside.classes.items c.self.invariant c.args.class c.in-Some.i c.index.result.now c.args.mask c.ranges.mask.fits (sym (c.in-Some.ensures ∙ ap (λ (symbols : Symbols). index_in symbols Classes c.args.class) (c.symbols.ensures ∙ ap (λ (policy : Parts). policy.symbols) c.policy.ensures)))
    (slice_get_read c.self.inside.classes.items (length c.self.inside.classes.items) c.in-Some.i c.index.result.now refl
    (reach_within (weights_of c.self.inside.weigher.now.entries) c.self.inside.weigher.now.rules.policy.symbols c.self.inside.least c.self.inside.classes.items c.self.invariant c.args.class c.in-Some.i (sym (c.in-Some.ensures ∙ ap (λ (symbols : Symbols). index_in symbols Classes c.args.class) (c.symbols.ensures ∙ ap (λ (policy : Parts). policy.symbols) c.policy.ensures)))) c.index.ensures))

pub returns-in-None-clause-out : goal.returns-in-None-clause-out
returns-in-None-clause-out c = c.neither.ensures.out ∙ rw (← c.self.view_is) (ap (λ (weight : ℕ). leb c.self.inside.least weight) (class_missing outwards (weights_of c.self.inside.weigher.now.entries) c.self.inside.weigher.now.rules.policy.symbols c.args.class c.args.mask (sym (c.in-None.ensures ∙ ap (λ (symbols : Symbols). index_in symbols Classes c.args.class) (c.symbols.ensures ∙ ap (λ (policy : Parts). policy.symbols) c.policy.ensures)))))

pub returns-in-Some-clause-into : goal.returns-in-Some-clause-into
returns-in-Some-clause-into c = rw (← c.self.view_is) (
    c.shared.ensures.into
    ∙ reach_into (weights_of c.self.inside.weigher.now.entries) c.self.inside.weigher.now.rules.policy.symbols c.self.inside.least c.self.inside.classes.items c.self.invariant c.args.class c.in-Some.i c.index.result.now c.args.mask c.ranges.mask.fits (sym (c.in-Some.ensures ∙ ap (λ (symbols : Symbols). index_in symbols Classes c.args.class) (c.symbols.ensures ∙ ap (λ (policy : Parts). policy.symbols) c.policy.ensures)))
    (slice_get_read c.self.inside.classes.items (length c.self.inside.classes.items) c.in-Some.i c.index.result.now refl
    (reach_within (weights_of c.self.inside.weigher.now.entries) c.self.inside.weigher.now.rules.policy.symbols c.self.inside.least c.self.inside.classes.items c.self.invariant c.args.class c.in-Some.i (sym (c.in-Some.ensures ∙ ap (λ (symbols : Symbols). index_in symbols Classes c.args.class) (c.symbols.ensures ∙ ap (λ (policy : Parts). policy.symbols) c.policy.ensures)))) c.index.ensures))

pub returns-in-None-clause-into : goal.returns-in-None-clause-into
returns-in-None-clause-into c = c.neither.ensures.into ∙ rw (← c.self.view_is) (ap (λ (weight : ℕ). leb c.self.inside.least weight) (class_missing inwards (weights_of c.self.inside.weigher.now.entries) c.self.inside.weigher.now.rules.policy.symbols c.args.class c.args.mask (sym (c.in-None.ensures ∙ ap (λ (symbols : Symbols). index_in symbols Classes c.args.class) (c.symbols.ensures ∙ ap (λ (policy : Parts). policy.symbols) c.policy.ensures)))))
