-- The tree of a policy: its records in the order of the file, without their places.
use Rattle.std.specs.Prelude.{ℕ, List, [], ◌∷◌}
use Rattle.pol_cursor.specs.References.{values_of}
use Rattle.pol_trans.specs.declared.NameTransRec.{NameTransRec}
use Rattle.pol_trans.specs.declared.NameGroupRec.{NameGroupRec}
use Rattle.pol_trans.specs.declared.NameTrans.{NameTrans}
use Rattle.pol_trans.specs.declared.NameTrans.TheVariants.{Entries, Groups}
use Rattle.pol_symbols.specs.declared.Symbols.{Symbols}
use Rattle.pol_file.specs.declared.Parts.{Parts}
use Rattle.pol_tree.specs.declared.tree.Tree.{Tree}

-- the file-name transitions that stand one by one; a policy has them in one of the two forms
abbrev pub entries_of : NameTrans → List NameTransRec
entries_of (Entries entries) = values_of entries
entries_of (Groups groups) = []

-- the file-name transitions that stand as groups
abbrev pub groups_of : NameTrans → List NameGroupRec
groups_of (Entries entries) = []
groups_of (Groups groups) = values_of groups

-- the greatest value of each symbol table
abbrev pub nprims_of : Symbols → List ℕ
nprims_of symbols =
    symbols.commons.nprim ∷ symbols.classes.nprim ∷ symbols.roles.nprim ∷ symbols.types.nprim
    ∷ symbols.users.nprim ∷ symbols.booleans.nprim ∷ symbols.levels.nprim ∷ symbols.categories.nprim ∷ []

-- a policy that has nothing in it
abbrev pub empty_tree : Tree
empty_tree = record {
  version = 0;
  config = 0;
  capabilities = [];
  permissive = [];
  nprims = 0 ∷ 0 ∷ 0 ∷ 0 ∷ 0 ∷ 0 ∷ 0 ∷ 0 ∷ [];
  commons = [];
  classes = [];
  roles = [];
  types = [];
  users = [];
  booleans = [];
  levels = [];
  categories = [];
  avtab = [];
  condlist = [];
  roletrans = [];
  roleallow = [];
  nametrans = [];
  namegroup = [];
  sid = [];
  fs = [];
  port = [];
  netif = [];
  node = [];
  fsuse = [];
  node6 = [];
  ibpkey = [];
  ibendport = [];
  genfs = [];
  rangetrans = [];
  typemap = [];
}

unfoldable pub tree_of : Parts → Tree
tree_of policy = record {
  version = policy.front.header.version;
  config = policy.front.header.config;
  capabilities = policy.front.capabilities;
  permissive = policy.front.permissive;
  nprims = nprims_of policy.symbols;
  commons = values_of policy.symbols.commons.records;
  classes = values_of policy.symbols.classes.records;
  roles = values_of policy.symbols.roles.records;
  types = values_of policy.symbols.types.records;
  users = values_of policy.symbols.users.records;
  booleans = values_of policy.symbols.booleans.records;
  levels = values_of policy.symbols.levels.records;
  categories = values_of policy.symbols.categories.records;
  avtab = values_of policy.rules.table;
  condlist = values_of policy.rules.conditionals;
  roletrans = values_of policy.rules.role_trans;
  roleallow = values_of policy.rules.role_allows;
  nametrans = entries_of policy.rules.name_trans;
  namegroup = groups_of policy.rules.name_trans;
  sid = values_of policy.labels.contexts.sid;
  fs = values_of policy.labels.contexts.fs;
  port = values_of policy.labels.contexts.port;
  netif = values_of policy.labels.contexts.netif;
  node = values_of policy.labels.contexts.node;
  fsuse = values_of policy.labels.contexts.fsuse;
  node6 = values_of policy.labels.contexts.node6;
  ibpkey = values_of policy.labels.contexts.ibpkey;
  ibendport = values_of policy.labels.contexts.ibendport;
  genfs = values_of policy.labels.genfs;
  rangetrans = values_of policy.labels.range_trans;
  typemap = values_of policy.labels.type_rows;
}
