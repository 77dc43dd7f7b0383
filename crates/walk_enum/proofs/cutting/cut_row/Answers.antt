use Rattle.std.proofs.Common.{◌≡◌, ◌<◌, List, ℕ, true, false, subst, sym, ◌∙◌}
use Rattle.std.specs.List.{filter}
use Rattle.std.proofs.lemmas.Result.{IfOk-weaker}
use Rattle.pol_bitmap.specs.Nodes.{bits_of}
use Rattle.pol_bitmap.specs.Sets.{IsCommon, ShareBit}
use Rattle.walk_enum.specs.Inner.Cutting.{goes_on}
use Rattle.walk_enum.proofs.Ascending.{Ascends}
use Rattle.walk_enum.proofs.Gathering.{leads_gathered, goes_on_there, filter_near, filter_apart, set_ascends}
use Rattle.walk_enum.proofs.cutting.cut_row.Goals as goal

pub returns-then-not-meets-clause-row : goal.returns-then-not-meets-clause-row
returns-then-not-meets-clause-row c =
    let p = goes_on c.args.depths.now c.args.kept.now c.args.to c.args.depth in
    let row = c.args.row.now in
    let good = bits_of c.gather.new.self.set in
    let apart : ShareBit row good → ⊥ = λ s. let met : false ≡ true = c.if-not-meets.ensures.1 (subst (λ (l : List ℕ). ShareBit l good) (sym c.as_set-2.ensures.bits) s) in absurd cc in
    c.new-then-not-meets.ensures ∙ c.new.ensures.items
    ∙ filter_apart p row good apart (λ n goes. goes_on_there c.args.depths.now c.args.kept.now c.args.to c.args.leading.now c.gather.new.self c.args.depth n c.requires c.in_ok-gather.ensures goes)

pub returns-then-not-meets-clause-leading : goal.returns-then-not-meets-clause-leading
returns-then-not-meets-clause-leading c = leads_gathered c.args.depths.now c.args.kept.now c.args.to c.args.leading.now c.gather.new.self c.args.depth c.requires c.in_ok-gather.ensures

pub returns-clause-row : goal.returns-clause-row
returns-clause-row c =
    let p = goes_on c.args.depths.now c.args.kept.now c.args.to c.args.depth in
    let row = c.args.row.now in
    let good = bits_of c.gather.new.self.set in
    let near = c.in_ok-near.near in
    let common : IsCommon row good (bits_of near) = subst (λ (l : List ℕ). IsCommon l good (bits_of near)) c.as_set-3.ensures.bits c.in_ok-near.ensures.bits in
    let up : Ascends ◌<◌ row = subst (Ascends ◌<◌) c.as_set-3.ensures.bits (set_ascends c.as_set-3.result.now c.as_set-3.ensures.form) in
    let same : filter p (bits_of near) ≡ filter p row =
    filter_near p row good (bits_of near) up (set_ascends near c.in_ok-near.ensures.form) common
    (λ n goes. goes_on_there c.args.depths.now c.args.kept.now c.args.to c.args.leading.now c.gather.new.self c.args.depth n c.requires c.in_ok-gather.ensures goes) in
    IfOk-weaker c.cut_set-2.result (λ r. r ≡ filter p (bits_of near)) (λ r. r ≡ filter p row) (λ r is. is ∙ same) c.cut_set-2.ensures

pub returns-clause-leading : goal.returns-clause-leading
returns-clause-leading c =
    IfOk-weaker c.cut_set-2.result _ _ (λ r is. leads_gathered c.args.depths.now c.args.kept.now c.args.to c.args.leading.now c.gather.new.self c.args.depth c.requires c.in_ok-gather.ensures) c.cut_set-2.ensures
