use Rattle.std.proofs.Common.{not, refl, ◌∙◌, arith, length-append}
use Rattle.pol_fields.specs.declared.fields.TheConstants.{NAMETRANS_COUNT, NAMEGROUP_COUNT, IBPKEY_COUNT, IBENDPORT_COUNT}
use Rattle.pol_cursor.specs.Parts.{spell_counted}
use Rattle.pol_trans.specs.NameTransRecord.{spell_name_trans}
use Rattle.pol_trans.specs.NameGroupRecord.{spell_name_group}
use Rattle.pol_trans.specs.NameTransitions.{has_groups}
use Rattle.pol_contexts.specs.ContextTables.{has_infiniband}
use Rattle.pol_contexts.specs.IbPkeyRecord.{spell_ibpkey}
use Rattle.pol_contexts.specs.IbEndPortRecord.{spell_ibendport}
use Rattle.pol_tree.specs.TreeShape.{shape}
use Rattle.pol_tree.specs.TreeSpelling.{table_of, spell_front, spell_symbols, spell_rules, spell_contexts, spell_labels, spell}
use Rattle.pol_tree.proofs.FittingTree.{table_fits, list_fits_if, each_right, few_if, few_unless, few_first, few_second}
use Rattle.pol_tree.proofs.Wrongs.{first_none, none_in}
use Rattle.pol_tree.proofs.tree_shape.wrong_part_of.Goals as goal

pub returns-clause-shape : goal.returns-clause-shape
unfolding shape
returns-clause-shape c =
    c.first_wrong.ensures
    ∙ rw (c.wrong_in_front.ensures.shape, c.wrong_in_symbols.ensures.shape, c.wrong_in_rules.ensures.shape, c.wrong_in_labels.ensures.shape) (first_none _)

pub returns-clause-fits : goal.returns-clause-fits
unfolding spell spell_front spell_symbols spell_rules spell_contexts spell_labels
returns-clause-fits c right few =
    let tree = c.args.tree.now in
    let front = c.wrong_in_front.ensures in
    let nprims = c.look_at_nprims.ensures in
    let symbols = c.wrong_in_symbols.ensures.fits in
    let rules = c.wrong_in_rules.ensures.fits in
    let labels = c.wrong_in_labels.ensures.fits in
    let contexts = labels.contexts in
    let rights = each_right tree right in
    let each = simp length-append at few in
    let grouped = has_groups tree.version in
    let there = has_infiniband tree.version in
    record {
      header = record { version = front.version; config = front.config };
      capabilities = front.capabilities.fitting refl (simp length-append (omega (arith, each)));
      permissive = front.permissive.fitting refl (simp length-append (omega (arith, each)));
      nprims = nprims.count;
      commons = table_fits (table_of tree 0 tree.commons) (nprims.each 0) (symbols.commons.fitting (none_in tree.commons) (omega (arith, each)));
      classes = table_fits (table_of tree 1 tree.classes) (nprims.each 1) (symbols.classes.fitting rights.classes (omega (arith, each)));
      roles = table_fits (table_of tree 2 tree.roles) (nprims.each 2) (symbols.roles.fitting (none_in tree.roles) (omega (arith, each)));
      types = table_fits (table_of tree 3 tree.types) (nprims.each 3) (symbols.types.fitting (none_in tree.types) (omega (arith, each)));
      users = table_fits (table_of tree 4 tree.users) (nprims.each 4) (symbols.users.fitting rights.users (omega (arith, each)));
      booleans = table_fits (table_of tree 5 tree.booleans) (nprims.each 5) (symbols.booleans.fitting (none_in tree.booleans) (omega (arith, each)));
      levels = table_fits (table_of tree 6 tree.levels) (nprims.each 6) (symbols.levels.fitting (none_in tree.levels) (omega (arith, each)));
      categories = table_fits (table_of tree 7 tree.categories) (nprims.each 7) (symbols.categories.fitting (none_in tree.categories) (omega (arith, each)));
      avtab = rules.avtab.fitting rights.avtab (omega (arith, each));
      condlist = rules.condlist.fitting rights.condlist (omega (arith, each));
      roletrans = rules.roletrans.fitting (none_in tree.roletrans) (omega (arith, each));
      roleallow = rules.roleallow.fitting (none_in tree.roleallow) (omega (arith, each));
      nametrans = list_fits_if (not grouped) tree.nametrans NAMETRANS_COUNT rules.nametrans rights.nametrans (none_in tree.nametrans) (few_unless spell_name_trans grouped tree.nametrans (spell_counted spell_name_group tree.namegroup) (omega (arith, each)));
      namegroup = list_fits_if grouped tree.namegroup NAMEGROUP_COUNT rules.namegroup rights.namegroup (none_in tree.namegroup) (few_if spell_name_group grouped tree.namegroup (spell_counted spell_name_trans tree.nametrans) (omega (arith, each)));
      sid = contexts.sid.fitting rights.sid (omega (arith, each));
      fs = contexts.fs.fitting rights.fs (omega (arith, each));
      port = contexts.port.fitting rights.port (omega (arith, each));
      netif = contexts.netif.fitting rights.netif (omega (arith, each));
      node = contexts.node.fitting rights.node (omega (arith, each));
      fsuse = contexts.fsuse.fitting rights.fsuse (omega (arith, each));
      node6 = contexts.node6.fitting rights.node6 (omega (arith, each));
      ibpkey = list_fits_if there tree.ibpkey IBPKEY_COUNT contexts.ibpkey rights.ibpkey_there rights.ibpkey (few_first spell_ibpkey spell_ibendport there tree.ibpkey tree.ibendport (omega (arith, each)));
      ibendport = list_fits_if there tree.ibendport IBENDPORT_COUNT contexts.ibendport rights.ibendport_there rights.ibendport (few_second spell_ibpkey spell_ibendport there tree.ibpkey tree.ibendport (omega (arith, each)));
      genfs = labels.genfs.fitting rights.genfs (omega (arith, each));
      rangetrans = labels.rangetrans.fitting rights.rangetrans (omega (arith, each));
      typemap = (labels.typemap.fitting (none_in tree.typemap) (omega (arith, each))).items;
    }
