use Rattle.std.proofs.Common.{sym}
use Rattle.std.proofs.lemmas.Result.{IfOk-weaker}
use Rattle.rule_text.proofs.ClassLists.{number_is_within, by_record, by_none}
use Rattle.rule_text.proofs.single_rules.permissions_in_class.Goals as goal

pub view-requires : goal.view-requires
view-requires c = number_is_within c.args.symbols.now c.args.class c.in-Some.i (sym c.in-Some.ensures)

pub returns-in-Some : goal.returns-in-Some
returns-in-Some c = IfOk-weaker c.by_name.result _ _ (λ sorted h. by_record c.args.symbols.now c.args.class c.in-Some.i c.view.result sorted (sym c.in-Some.ensures) c.view.ensures h) c.by_name.ensures

pub returns-in-None : goal.returns-in-None
returns-in-None c = rw c.none.ensures (by_none c.args.symbols.now c.args.class (sym c.in-None.ensures))
