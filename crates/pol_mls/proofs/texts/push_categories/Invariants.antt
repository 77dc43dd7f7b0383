use Rattle.std.proofs.Common.{◌≡◌, ◌++◌}
use Rattle.pol_bitmap.specs.Nodes.{bits_of}
use Rattle.pol_mls.specs.MlsTexts.{categories_of, categories_text}
use Rattle.pol_mls.specs.Inner.Runs.{text_left}
use Rattle.pol_mls.proofs.texts.push_categories.Given as goal

-- what is written and what is left make the text
abbrev pub invariant-loop-bit : goal.invariant-loop-bit
invariant-loop-bit g l =
    let named = g.N.Names.named l.names in
    l.out.items ++ text_left named l.run (categories_of named l.bit-iterator) ≡ l.fn.out.items ++ categories_text named (categories_of named (bits_of l.categories))
