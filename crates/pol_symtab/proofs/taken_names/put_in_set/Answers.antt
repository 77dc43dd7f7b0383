use Rattle.std.proofs.Common.{ℕ, List, [], Bor, take, get_or}
use Rattle.std.proofs.lemmas.List.{take_more}
use Rattle.pol_symtab.proofs.TakenOrder.{in_set_more}
use Rattle.pol_symtab.proofs.taken_names.put_in_set.Goals as goal

pub loop-name-preserved : goal.loop-name-preserved
loop-name-preserved c =
    let names = c.args.names.now in
    let i = c.loop-name.name-index in
    let none : Bor (List ℕ) = record { ref_ptr = (0, 0); now = [] } in
    rw (c.in_ok-insert.ensures.keys, take_more names i none c.loop-name-test.true) (in_set_more (take i names) c.loop-name.set.keys (get_or names i none) c.loop-name.invariant)
