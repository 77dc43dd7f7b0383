use Rattle.std.proofs.Common.{◌≡◌, ◌≤◌, length, map, ap, ◌∙◌, arith}
use Rattle.std.proofs.lemmas.List.{take_all}
use Rattle.pol_datums.specs.declared.TypeRec.{TypeRec}
use Rattle.pol_versions.proofs.declared.values_of_types.Goals as goal

pub returns : goal.returns
returns c =
    let types = c.args.types.now in
    let whole : length types ≤ c.loop-record.record-index = omega (arith, c.loop-record-test.false) in
    let all : c.loop-record.values.items ≡ map (λ (type : TypeRec). type.value) types =
    c.loop-record.invariant ∙ ap (map (λ (type : TypeRec). type.value)) (take_all c.loop-record.record-index types whole) in
    rw all at c.set_of_values.ensures
