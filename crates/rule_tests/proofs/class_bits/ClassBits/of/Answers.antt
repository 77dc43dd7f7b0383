use Rattle.std.proofs.Common.{◌∙◌, Bor, List, ℕ, ap}
use Rattle.std.specs.Prelude.{not}
use Rattle.std.specs.Str.{bytes_eq}
use Rattle.std.specs.List.{list_any}
use Rattle.pol_commons.specs.CommonTable.{inherited_from}
use Rattle.pol_commons.specs.declared.PermissionRec.{PermissionRec}
use Rattle.pol_symbols.specs.PolicySymbols.{permissions_of}
use Rattle.rule_tests.proofs.ClassPermissions.{class_bits_are, two_lists}
use Rattle.rule_tests.proofs.class_bits.ClassBits.of.Goals as goal

pub returns : goal.returns
returns c = class_bits_are (λ (name : Bor (List ℕ)). name.now) c.args.names.now (permissions_of c.args.symbols.now c.args.class.now.value) _ c.in_ok-named.ensures
    (two_lists (λ (p : PermissionRec). not (list_any (λ (other : Bor (List ℕ)). bytes_eq p.name other.now) c.args.names.now)) c.permissions.result c.inherited_from.result c.args.class.now.value.permissions (inherited_from c.args.symbols.now.commons c.args.class.now.value.common) c.bits_of_others-own.result c.bits_of_others-others.result
    c.permissions.ensures (c.inherited_from.ensures ∙ ap (inherited_from c.args.symbols.now.commons) c.common.ensures) c.bits_of_others-own.ensures c.bits_of_others-others.ensures)
