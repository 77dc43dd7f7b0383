use Rattle.std.proofs.Common.{◌≡◌, ◌<◌, List, [], length, get_or, sym, ap, subst, ◌∙◌, arith}
use Rattle.std.proofs.lemmas.List.{get_or_default}
use Rattle.pol_commons.specs.declared.PermissionRec.{PermissionRec}
use Rattle.pol_symbols.specs.PolicySymbols.{permissions_in_class}
use Rattle.rule_text.specs.Inner.ClassPermissions.{AreByName}
use Rattle.rule_text.proofs.ClassLists.{number_is_within, by_list, by_none}
use Rattle.rule_text.proofs.permission_table.PermissionTable.of_class.Goals as goal

pub index-requires : goal.index-requires
index-requires c =
    let within : c.in-Some.i < length c.args.symbols.now.classes.records = number_is_within c.args.symbols.now c.args.class c.in-Some.i (sym c.in-Some.ensures) in
    omega (arith, c.requires.count, ap length c.self.view_is)

pub returns-in-Some : goal.returns-in-Some
returns-in-Some c =
    let lists = c.self.inside.classes.items in
    let within : c.in-Some.i < length c.args.symbols.now.classes.records = number_is_within c.args.symbols.now c.args.class c.in-Some.i (sym c.in-Some.ensures) in
    let room : c.in-Some.i < length lists = omega (arith, c.requires.count, ap length c.self.view_is) in
    let is : c.as_slice.result.now ≡ get_or c.args.self.now c.in-Some.i [] =
    c.as_slice.ensures ∙ c.index.ensures ∙ get_or_default lists c.in-Some.i c.index.result.now [] room ∙ ap (λ (xs : List (List PermissionRec)). get_or xs c.in-Some.i []) c.self.view_is in
    subst (λ (sorted : List PermissionRec). AreByName (permissions_in_class c.args.symbols.now c.args.class) sorted) (sym is) (by_list c.args.symbols.now c.args.self.now c.args.class c.in-Some.i c.requires (sym c.in-Some.ensures))

pub returns-in-None : goal.returns-in-None
returns-in-None c = by_none c.args.symbols.now c.args.class (sym c.in-None.ensures)
