use Rattle.std.proofs.Common.{List, ℕ, subst}
use Rattle.walk_enum.specs.Inner.Cutting.{AreLeading}
use Rattle.walk_enum.specs.Inner.Leading.{Notes}
use Rattle.pol_bitmap.specs.Nodes.{bits_of}
use Rattle.walk_enum.proofs.Gathering.{leads_noted}
use Rattle.walk_enum.proofs.cutting.cut_node.Goals as goal

pub returns-clause-leading : goal.returns-clause-leading
returns-clause-leading c =
    let depths = c.args.depths.now in
    let kept = c.args.kept.now.items in
    let ways = c.in_ok-ways.ways in
    let middle = c.cut_row.new.leading in
    let new = c.note.new.self in
    let notes : Notes middle new c.args.node c.number_at-depth.result ways = subst (Notes middle new c.args.node c.number_at-depth.result) c.as_slice.ensures c.in_ok-note.ensures in
    let leads : AreLeading depths kept c.args.to (bits_of middle.set) middle.others.items middle.deepest = subst (λ (k : List (List ℕ)). AreLeading depths k c.args.to (bits_of middle.set) middle.others.items middle.deepest) c.deref.ensures.value c.in_ok-ways.ensures.leading in
    leads_noted depths kept c.args.to middle new c.args.node c.number_at-depth.result ways c.requires.within c.number_at-depth.ensures leads notes
