use Rattle.std.proofs.Common.{◌≡◌, ◌++◌, map}
use Rattle.pol_bitmap.specs.Nodes.{bits_of}
use Rattle.pol_constraints.specs.ConstraintTexts.{names_of}
use Rattle.pol_constraints.proofs.constraint_text.names_of.Given as goal

abbrev pub invariant-loop-bit : goal.invariant-loop-bit
invariant-loop-bit g l =
    let named = g.N.Names.named l.names in
    map (λ name. name.now) l.declared.items ++ names_of named l.table l.bit-iterator ≡ names_of named l.table (bits_of l.bitmap)
