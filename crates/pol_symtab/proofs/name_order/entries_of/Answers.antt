use Rattle.std.proofs.Common.{refl, sym, ap, ◌∙◌, length, take, get_or, arith}
use Rattle.std.specs.Prelude.{map}
use Rattle.std.proofs.lemmas.List.{map_push, length-map, length-take}
use Rattle.std.proofs.lemmas.List.Elements.{All-nil, All-push}
use Rattle.pol_symtab.specs.Inner.Namings.{its_name, is_its_primary, naming}
use Rattle.pol_symtab.specs.declared.name_order.Entry.{Entry}
use Rattle.pol_symtab.specs.Inner.NamePrefixes.{HasPrefix}
use Rattle.pol_symtab.specs.Inner.TableIndex.{numbered, seen}
use Rattle.pol_symtab.proofs.Namings.{naming_there, no_symbol}
use Rattle.pol_symtab.proofs.SortedNames.{numbered_next, length_numbered}
use Rattle.pol_symtab.proofs.name_order.entries_of.Goals as goal

pub loop-number-init : goal.loop-number-init
unfolding numbered
loop-number-init c = rw c.in_ok-entries.ensures.items (refl, All-nil HasPrefix)

pub loop-number-preserved : goal.loop-number-preserved
loop-number-preserved c =
    let n = c.loop-number.number in
    let symbol = get_or c.args.names.now n no_symbol in
    let entry : Entry = record { prefix = c.prefix_of.result; name = symbol.name; number = n; primary = symbol.primary } in
    let prefixed : HasPrefix entry = record { same = c.prefix_of.ensures.same; bytes = c.prefix_of.ensures.bytes } in
    let at = naming_there c.args.names.now n (omega (arith, c.loop-number-test.true, c.requires)) in
    rw c.in_ok-push.ensures.items (
      map_push seen c.loop-number.entries.items entry
          ∙ rw c.loop-number.invariant.0 (sym (numbered_next its_name is_its_primary (map naming c.args.names.now) n (naming symbol) at)),
      All-push HasPrefix c.loop-number.entries.items entry c.loop-number.invariant.1 prefixed,
    )

pub returns-clause-few : goal.returns-clause-few
returns-clause-few c =
    let part = take c.loop-number.number (map naming c.args.names.now) in
    omega (
      arith,
      length-map c.loop-number.entries.items seen,
      ap length c.loop-number.invariant.0,
      length_numbered its_name is_its_primary 0 part,
      length-take c.loop-number.number (map naming c.args.names.now),
      length-map c.args.names.now naming,
      c.requires,
    )
