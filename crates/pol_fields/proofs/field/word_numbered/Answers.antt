use Rattle.std.proofs.Common.{◌<◌, Bor, List, ℕ, arith}
use Rattle.pol_fields.proofs.FieldTable.{item_numbered}
use Rattle.pol_fields.proofs.field.word_numbered.Goals as goal

pub returns-in-Some : goal.returns-in-Some
returns-in-Some c =
    let f = λ (word : Bor (List ℕ)). word.now in
    let some : 0 < c.args.number = omega arith in
    item_numbered f c.args.words.now c.args.number c.in-Some.word.now some c.in-Some.ensures.lookup.3.0 c.in-Some.ensures.lookup.1
