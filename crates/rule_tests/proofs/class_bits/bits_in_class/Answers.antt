use Rattle.std.proofs.Common.{◌∙◌, ap}
use Rattle.std.specs.Str.{bytes_eq}
use Rattle.pol_commons.specs.CommonTable.{inherited_from}
use Rattle.pol_commons.specs.declared.PermissionRec.{PermissionRec}
use Rattle.rule_tests.proofs.ClassPermissions.{two_lists}
use Rattle.rule_tests.proofs.class_bits.bits_in_class.Goals as goal

pub returns : goal.returns
returns c = two_lists (λ (p : PermissionRec). bytes_eq c.args.name.now p.name) c.permissions.result c.inherited_from.result _ _ c.bits_of_name-own.result c.bits_of_name.result c.permissions.ensures (c.inherited_from.ensures ∙ ap (inherited_from c.args.symbols.now.commons) c.common.ensures) c.bits_of_name-own.ensures c.bits_of_name.ensures
