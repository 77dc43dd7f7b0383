use Rattle.std.proofs.Common.{ℕ, List, Bor, [], ◌∷◌, ◌++◌, sym, ap, ◌∙◌}
use Rattle.std.proofs.lemmas.Bool.{not-true, not-false}
use Rattle.std.proofs.lemmas.List.{map_push}
use Rattle.pol_symtab.proofs.TakenNames.{names_of, any_name}
use Rattle.pol_symtab.proofs.TakenOrder.{with_there, with_new}
use Rattle.pol_symtab.proofs.taken_names.add_to_both.Goals as goal

pub returns-in_ok-push-clause-ok : goal.returns-in_ok-push-clause-ok
returns-in_ok-push-clause-ok c =
    let name = c.args.name.now in
    let new = sym (c.requires name) ∙ sym (any_name name c.args.set.now.keys) ∙ not-true _ (sym c.in_ok-insert.ensures.added ∙ c.if-branch.true) in
    ap names_of (c.in_ok-push.ensures.items ∙ ap (λ (ns : List (Bor (List ℕ))). ns ++ c.args.name ∷ []) c.in_ok-reserve.ensures.items)
    ∙ map_push (λ (n : Bor (List ℕ)). n.now) c.args.names.now.items c.args.name
    ∙ with_new (names_of c.args.names.now.items) name new

pub returns-else-branch-clause-ok : goal.returns-else-branch-clause-ok
returns-else-branch-clause-ok c =
    let name = c.args.name.now in
    let there = sym (c.requires name) ∙ sym (any_name name c.args.set.now.keys) ∙ not-false _ (sym c.in_ok-insert.ensures.added ∙ c.if-branch.false) in
    ap names_of c.in_ok-reserve.ensures.items ∙ with_there (names_of c.args.names.now.items) name there
