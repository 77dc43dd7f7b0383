use Rattle.std.proofs.Common.{◌≡◌, ◌<◌, ◌≤◌, ◌-◌, Bor, length, map, sym, ap, subst, ◌∙◌, arith}
use Rattle.std.proofs.lemmas.List.{get_or-map, length-map, take_all}
use Rattle.set_nodes.specs.SetNodes.{set_of_values}
use Rattle.pol_trans.specs.declared.name_trans_rec.NameTransRec.{NameTransRec}
use Rattle.pol_convert.proofs.Parts.{map_twice}
use Rattle.pol_convert.proofs.groups.datum_of.Goals as goal

pub overflow_sub-entry : goal.overflow_sub-entry
overflow_sub-entry c =
    let now = λ (entry : Bor NameTransRec). entry.now in
    let entries = c.args.entries.now in
    let i = c.loop-entry.entry-index in
    let entry = c.entry-item.result in
    let there : i < length (map now entries) = omega (arith, c.loop-entry-test.true, length-map entries now) in
    subst (λ (e : NameTransRec). 1 ≤ e.source) (get_or-map now entries i entry entry.now c.loop-entry-test.true ∙ ap now (sym c.entry-item.is)) (c.requires i entry.now there)

pub returns : goal.returns
returns c =
    let bit_of = λ (entry : NameTransRec). entry.source - 1 in
    let now = λ (entry : Bor NameTransRec). entry.now in
    let entries = c.args.entries.now in
    let whole : length entries ≤ c.loop-entry.entry-index = omega (arith, c.loop-entry-test.false) in
    let all : c.loop-entry.bits.items ≡ map bit_of (map now entries) =
    c.loop-entry.invariant ∙ ap (map (λ (entry : Bor NameTransRec). bit_of (now entry))) (take_all c.loop-entry.entry-index entries whole) ∙ sym (map_twice bit_of now entries) in
    let same : c.in_ok-sources.sources ≡ set_of_values (map bit_of (map now entries)) = c.in_ok-sources.ensures ∙ ap set_of_values all in
    λ i. record { sources = same i; default = c.args.default }
