-- The policy that is made of a number of types, for measurements and tests. Its types stand in a ring, each of which has one
-- transition, to the type after it.
use Rattle.std.specs.Prelude.{◌≡◌, ℕ, ◌%◌, ◌≤◌, [], ◌∷◌}
use Rattle.pol_tree.specs.declared.Tree.{Tree}
use Rattle.set_nodes.specs.SetNodes.{set_of}
use Rattle.pol_make.specs.MadeSymbols.{made_nprims, made_commons, made_classes, made_roles, made_types, made_users, made_booleans, made_levels, made_categories}
use Rattle.pol_make.specs.MadeRules.{made_rules, made_sids, made_rows}

-- so many types a policy is made of: each attribute has twenty
pub record Allowed (n : ℕ) : Type 0 where
  pub least : 200 ≤ n
  pub most : n ≤ 5000
  pub twenties : n % 20 ≡ 0

-- Classes and permissions that it does not know are allowed, and it is one with levels: config 5. Its capability is open_perms.
unfoldable pub made : ℕ → Tree
made n = record {
  version = 31;
  config = 5;
  capabilities = set_of (1 ∷ []);
  permissive = set_of [];
  nprims = made_nprims n;
  commons = made_commons;
  classes = made_classes;
  roles = made_roles n;
  types = made_types n;
  users = made_users;
  booleans = made_booleans;
  levels = made_levels;
  categories = made_categories;
  avtab = made_rules n;
  condlist = [];
  roletrans = [];
  roleallow = [];
  nametrans = [];
  namegroup = [];
  sid = made_sids;
  fs = [];
  port = [];
  netif = [];
  node = [];
  fsuse = [];
  node6 = [];
  ibpkey = [];
  ibendport = [];
  genfs = [];
  rangetrans = [];
  typemap = made_rows n;
}
