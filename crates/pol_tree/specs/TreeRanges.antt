-- Trees whose bytes say them: each number fits its field, the counts of lists and the lengths of names among them, and each record has
-- the optional parts of its kind.
use Rattle.std.specs.Prelude.{◌≡◌, length}
use Rattle.std.specs.List.{AllByRecursion}
use Rattle.pol_cursor.specs.Parts.{CountedFits}
use Rattle.pol_bitmap.specs.Bitmap.{BitmapFits}
use Rattle.pol_file.specs.HeaderRecord.{HeaderFits}
use Rattle.pol_symtab.specs.SymbolTables.{TableFits}
use Rattle.pol_commons.specs.CommonRecord.{CommonFits}
use Rattle.pol_datums.specs.RoleRecord.{RoleFits}
use Rattle.pol_datums.specs.TypeRecord.{TypeFits}
use Rattle.pol_datums.specs.BooleanRecord.{BooleanFits}
use Rattle.pol_datums.specs.SensitivityRecord.{SensitivityFits}
use Rattle.pol_datums.specs.CategoryRecord.{CategoryFits}
use Rattle.pol_classes.specs.ClassRecord.{ClassFits}
use Rattle.pol_symbols.specs.UserRecord.{UserFits}
use Rattle.pol_avtab.specs.AvRecord.{AvFits}
use Rattle.pol_conditionals.specs.CondNodeRecord.{CondNodeFits}
use Rattle.pol_trans.specs.RoleTransRecord.{RoleTransFits}
use Rattle.pol_trans.specs.RoleAllowRecord.{RoleAllowFits}
use Rattle.pol_trans.specs.NameTransRecord.{NameTransFits}
use Rattle.pol_trans.specs.NameGroupRecord.{NameGroupFits}
use Rattle.pol_trans.specs.RangeTransRecord.{RangeTransFits}
use Rattle.pol_contexts.specs.SidRecord.{SidFits}
use Rattle.pol_contexts.specs.NamedRecord.{NamedFits}
use Rattle.pol_contexts.specs.PortRecord.{PortFits}
use Rattle.pol_contexts.specs.AddressRecord.{AddressFits}
use Rattle.pol_contexts.specs.FsUseRecord.{FsUseFits}
use Rattle.pol_contexts.specs.IbPkeyRecord.{IbPkeyFits}
use Rattle.pol_contexts.specs.IbEndPortRecord.{IbEndPortFits}
use Rattle.pol_genfs.specs.GenfsRecord.{GenfsFits}
use Rattle.pol_tree.specs.declared.tree.Tree.{Tree}
use Rattle.pol_tree.specs.TreeSpelling.{header_of, table_of}

pub record TreeFits (tree : Tree) : Type 0 where
  pub header : HeaderFits (header_of tree)
  pub capabilities : BitmapFits tree.capabilities
  pub permissive : BitmapFits tree.permissive
  pub nprims : length tree.nprims ≡ 8
  pub commons : TableFits CommonFits (table_of tree 0 tree.commons)
  pub classes : TableFits (ClassFits tree.version) (table_of tree 1 tree.classes)
  pub roles : TableFits RoleFits (table_of tree 2 tree.roles)
  pub types : TableFits TypeFits (table_of tree 3 tree.types)
  pub users : TableFits UserFits (table_of tree 4 tree.users)
  pub booleans : TableFits BooleanFits (table_of tree 5 tree.booleans)
  pub levels : TableFits SensitivityFits (table_of tree 6 tree.levels)
  pub categories : TableFits CategoryFits (table_of tree 7 tree.categories)
  pub avtab : CountedFits AvFits tree.avtab
  pub condlist : CountedFits CondNodeFits tree.condlist
  pub roletrans : CountedFits RoleTransFits tree.roletrans
  pub roleallow : CountedFits RoleAllowFits tree.roleallow
  pub nametrans : CountedFits NameTransFits tree.nametrans
  pub namegroup : CountedFits NameGroupFits tree.namegroup
  pub sid : CountedFits SidFits tree.sid
  pub fs : CountedFits NamedFits tree.fs
  pub port : CountedFits PortFits tree.port
  pub netif : CountedFits NamedFits tree.netif
  pub node : CountedFits (AddressFits 4) tree.node
  pub fsuse : CountedFits FsUseFits tree.fsuse
  pub node6 : CountedFits (AddressFits 16) tree.node6
  pub ibpkey : CountedFits IbPkeyFits tree.ibpkey
  pub ibendport : CountedFits IbEndPortFits tree.ibendport
  pub genfs : CountedFits GenfsFits tree.genfs
  pub rangetrans : CountedFits RangeTransFits tree.rangetrans
  pub typemap : AllByRecursion BitmapFits tree.typemap
