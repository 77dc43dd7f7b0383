-- What is known of the lists of a tree by the types of their numbers. It serves the code alone.
use Rattle.std.specs.Prelude.{None}
use Rattle.pol_bitmap.specs.Bitmap.{spell_bitmap, BitmapFits}
use Rattle.pol_commons.specs.CommonRecord.{spell_common, CommonFits}
use Rattle.pol_datums.specs.RoleRecord.{spell_role, RoleFits}
use Rattle.pol_datums.specs.TypeRecord.{spell_type, TypeFits}
use Rattle.pol_datums.specs.BooleanRecord.{spell_boolean, BooleanFits}
use Rattle.pol_datums.specs.SensitivityRecord.{spell_sensitivity, SensitivityFits}
use Rattle.pol_datums.specs.CategoryRecord.{spell_category, CategoryFits}
use Rattle.pol_classes.specs.ClassRecord.{spell_class, ClassFits}
use Rattle.pol_symbols.specs.UserRecord.{spell_user, UserFits}
use Rattle.pol_avtab.specs.AvRecord.{spell_av, AvFits}
use Rattle.pol_conditionals.specs.CondNodeRecord.{spell_condnode, CondNodeFits}
use Rattle.pol_trans.specs.RoleTransRecord.{spell_role_trans, RoleTransFits}
use Rattle.pol_trans.specs.RoleAllowRecord.{spell_role_allow, RoleAllowFits}
use Rattle.pol_trans.specs.NameTransRecord.{spell_name_trans, NameTransFits}
use Rattle.pol_trans.specs.NameGroupRecord.{spell_name_group, NameGroupFits}
use Rattle.pol_trans.specs.RangeTransRecord.{spell_range_trans, RangeTransFits}
use Rattle.pol_contexts.specs.SidRecord.{spell_sid, SidFits}
use Rattle.pol_contexts.specs.NamedRecord.{spell_named, NamedFits}
use Rattle.pol_contexts.specs.PortRecord.{spell_port, PortFits}
use Rattle.pol_contexts.specs.AddressRecord.{spell_address, AddressFits}
use Rattle.pol_contexts.specs.FsUseRecord.{spell_fsuse, FsUseFits}
use Rattle.pol_contexts.specs.IbPkeyRecord.{spell_ibpkey, IbPkeyFits}
use Rattle.pol_contexts.specs.IbEndPortRecord.{spell_ibendport, IbEndPortFits}
use Rattle.pol_genfs.specs.GenfsRecord.{spell_genfs, GenfsFits}
use Rattle.pol_tree.specs.RecordShapes.{shape_of_class, shape_of_user, shape_of_av, shape_of_condnode, shape_of_range_trans, shape_of_genfs, shape_of_sid, shape_of_named, shape_of_port, shape_of_address, shape_of_fsuse, shape_of_ibpkey, shape_of_ibendport}
use Rattle.pol_tree.specs.declared.tree.Tree.{Tree}
use Rattle.pol_tree.specs.Inner.Fitting.{AreFitting}

-- the symbol tables
pub record SymbolsFit (tree : Tree) : Type 0 where
  pub commons : AreFitting (λ x. None) CommonFits spell_common tree.commons
  pub classes : AreFitting (shape_of_class tree.version) (ClassFits tree.version) spell_class tree.classes
  pub roles : AreFitting (λ x. None) RoleFits spell_role tree.roles
  pub types : AreFitting (λ x. None) TypeFits spell_type tree.types
  pub users : AreFitting shape_of_user UserFits spell_user tree.users
  pub booleans : AreFitting (λ x. None) BooleanFits spell_boolean tree.booleans
  pub levels : AreFitting (λ x. None) SensitivityFits spell_sensitivity tree.levels
  pub categories : AreFitting (λ x. None) CategoryFits spell_category tree.categories

-- the rules but for the range transitions
pub record RulesFit (tree : Tree) : Type 0 where
  pub avtab : AreFitting shape_of_av AvFits spell_av tree.avtab
  pub condlist : AreFitting shape_of_condnode CondNodeFits spell_condnode tree.condlist
  pub roletrans : AreFitting (λ x. None) RoleTransFits spell_role_trans tree.roletrans
  pub roleallow : AreFitting (λ x. None) RoleAllowFits spell_role_allow tree.roleallow
  pub nametrans : AreFitting (λ x. None) NameTransFits spell_name_trans tree.nametrans
  pub namegroup : AreFitting (λ x. None) NameGroupFits spell_name_group tree.namegroup

-- the tables of contexts
pub record ContextsFit (tree : Tree) : Type 0 where
  pub sid : AreFitting shape_of_sid SidFits spell_sid tree.sid
  pub fs : AreFitting shape_of_named NamedFits spell_named tree.fs
  pub port : AreFitting shape_of_port PortFits spell_port tree.port
  pub netif : AreFitting shape_of_named NamedFits spell_named tree.netif
  pub node : AreFitting shape_of_address (AddressFits 4) spell_address tree.node
  pub fsuse : AreFitting shape_of_fsuse FsUseFits spell_fsuse tree.fsuse
  pub node6 : AreFitting shape_of_address (AddressFits 16) spell_address tree.node6
  pub ibpkey : AreFitting shape_of_ibpkey IbPkeyFits spell_ibpkey tree.ibpkey
  pub ibendport : AreFitting shape_of_ibendport IbEndPortFits spell_ibendport tree.ibendport

-- what stands behind the rules
pub record LabelsFit (tree : Tree) : Type 0 where
  pub contexts : ContextsFit tree
  pub genfs : AreFitting shape_of_genfs GenfsFits spell_genfs tree.genfs
  pub rangetrans : AreFitting shape_of_range_trans RangeTransFits spell_range_trans tree.rangetrans
  pub typemap : AreFitting (λ set. None) BitmapFits spell_bitmap tree.typemap
