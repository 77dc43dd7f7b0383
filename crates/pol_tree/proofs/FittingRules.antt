-- Access vectors, conditions and conditional nodes fit.
use Rattle.std.proofs.Common.{◌≡◌, ◌<◌, ◌^◌, Bool, true, false, Option, Some, None, refl, subst, arith}
use Rattle.std.specs.Prelude.{is_some}
use Rattle.std.proofs.lemmas.List.{length-append}
use Rattle.pol_fields.specs.declared.field.Field.{Field}
use Rattle.pol_fields.specs.declared.fields.TheConstants.{AV_XKIND}
use Rattle.pol_cursor.proofs.Numbers.{length-bytes_of}
use Rattle.pol_fields.specs.declared.Field.{Field}
use Rattle.pol_expr.specs.declared.ConditionItem.{ConditionItem}
use Rattle.pol_expr.specs.declared.ConditionRec.{ConditionRec}
use Rattle.pol_expr.specs.ConditionRecord.{spell_item, ItemFits, spell_condition, ConditionFits}
use Rattle.pol_avtab.specs.declared.AvRec.{AvRec}
use Rattle.pol_avtab.specs.AvRecord.{is_extended, spell_av, PartFits, AvFits}
use Rattle.pol_avtab.specs.XPerms.{xperms_of}
use Rattle.pol_conditionals.specs.declared.CondNodeRec.{CondNodeRec}
use Rattle.pol_conditionals.specs.CondNodeRecord.{spell_condnode, CondNodeFits}
use Rattle.pol_tree.specs.OptionalParts.{shape_of_part}
use Rattle.pol_tree.specs.RecordShapes.{shape_of_av, shape_of_condnode}
use Rattle.pol_tree.specs.Inner.Fitting.{IsFitting, AreFitting}
use Rattle.pol_tree.proofs.Wrongs.{none_each, none_in}

pub item_fits : (item : ConditionItem) → item.kind < 2 ^ 32 → item.boolean < 2 ^ 32 → IsFitting (λ x. None) ItemFits spell_item item
item_fits item kind boolean = record { some = simp length-append (omega (arith, length-bytes_of 4 item.kind)); fitting = λ right few. (kind, boolean) }

pub condition_fits : (condition : ConditionRec) → condition.state < 2 ^ 32 → AreFitting (λ x. None) ItemFits spell_item condition.items → IsFitting (λ x. None) ConditionFits spell_condition condition
condition_fits condition state items = record {
  some = simp length-append (omega (arith, length-bytes_of 4 condition.state));
  fitting = λ right few.
      let each = simp length-append at few in
      let list = items.fitting (none_in condition.items) (omega (arith, each)) in
      record { state = state; count = list.count; items = list.items };
}

-- ---- access vectors

-- a part that is there exactly where it has to be
present : {A : Type 0} (there : Bool) (part : Option A) (field : Field) → shape_of_part there part field ≡ None → is_some part ≡ there
present true (Some x) field right = refl
present false (Some x) field right = absurd cc
present true None field right = absurd cc
present false None field right = refl

pub av_fits : (av : AvRec) → av.source < 2 ^ 16 → av.target < 2 ^ 16 → av.class < 2 ^ 16 → av.specified < 2 ^ 16 → PartFits (is_some (xperms_of av.part)) av.part → IsFitting shape_of_av AvFits spell_av av
av_fits av source target class specified part = record {
  some = simp length-append (omega (arith, length-bytes_of 2 av.source));
  fitting = λ right few.
      let kind = present (is_extended av.specified) (xperms_of av.part) AV_XKIND right in
      record { source = source; target = target; class = class; specified = specified; part = subst (λ (there : Bool). PartFits there av.part) kind part };
}

-- ---- conditional nodes

pub condnode_fits : (node : CondNodeRec) → IsFitting (λ x. None) ConditionFits spell_condition node.condition → AreFitting shape_of_av AvFits spell_av node.true_rules
    → AreFitting shape_of_av AvFits spell_av node.false_rules → IsFitting shape_of_condnode CondNodeFits spell_condnode node
condnode_fits node condition true_rules false_rules = record {
  some = simp length-append (omega (arith, length-bytes_of 4 node.condition.state));
  fitting = λ right few.
      let each = simp length-append at few in
      let rights = none_each _ _ right in
      record {
        condition = condition.fitting refl (simp length-append (omega (arith, each)));
        true_rules = true_rules.fitting rights.0 (omega (arith, each));
        false_rules = false_rules.fitting (none_each _ _ rights.1).0 (omega (arith, each));
      };
}
