use Rattle.std.proofs.Common.{◌≡◌, drop}
use Rattle.pol_cursor.specs.References.{dangling_of}
use Rattle.pol_cursor.specs.Mentions.{references_of}
use Rattle.pol_cursor.proofs.mention.first_dangling.Given as goal

-- the mentions before are declared
abbrev pub invariant-loop-mention : goal.invariant-loop-mention
invariant-loop-mention g l =
    let named = g.N.Names.named l.names in
    dangling_of named (references_of l.mentions) ≡ dangling_of named (references_of (drop l.mention-index l.mentions))
