use Rattle.std.proofs.Common.{◌≡◌, Some, sym, subst}
use Rattle.pol_cursor.specs.References.{Placed, dangling_of}
use Rattle.pol_mls.specs.declared.context_rec.ContextRec.{ContextRec}
use Rattle.pol_mls.specs.ContextRecord.{context_references}
use Rattle.pol_contexts.specs.NamedRecord.{context_place, second_place}
use Rattle.pol_cursor.proofs.DanglingLists.{undeclared_first}
use Rattle.pol_contexts.proofs.named_entry.NamedRecEntry.dangling_in.Goals as goal

pub returns-in-Some : goal.returns-in-Some
returns-in-Some g c =
    let entry = c.args.view.now in
    let named = g.N.Names.named c.args.names.now in
    let first = subst (λ (context : Placed ContextRec). dangling_of named (context_references context) ≡ Some c.in-Some.fault) c.context.ensures (sym c.in-Some.ensures) in
    sym (undeclared_first named (context_references (record { place = context_place entry; value = entry.value.context })) (context_references (record { place = second_place entry; value = entry.value.second_context })) c.in-Some.fault first)
