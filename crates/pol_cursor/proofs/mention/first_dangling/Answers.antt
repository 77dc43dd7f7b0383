use Rattle.std.proofs.Common.{◌∙◌, sym}
use Rattle.pol_cursor.proofs.ReferenceLists.{dangling_later, dangling_here}
use Rattle.pol_cursor.proofs.mention.first_dangling.Goals as goal

pub returns-in-Some : goal.returns-in-Some
returns-in-Some g c =
    sym (c.loop-mention.invariant ∙ dangling_here (g.N.Names.named c.args.names.now) c.args.mentions.now c.loop-mention.mention-index _ c.in-Some.fault c.loop-mention-test.true (sym c.dangling.ensures ∙ c.in-Some.is))

pub loop-mention-preserved : goal.loop-mention-preserved
loop-mention-preserved g c =
    c.loop-mention.invariant ∙ dangling_later (g.N.Names.named c.args.names.now) c.args.mentions.now c.loop-mention.mention-index _ c.loop-mention-test.true (sym c.dangling.ensures ∙ c.in-None.is)
