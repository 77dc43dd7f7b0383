-- The numbers of a tree fit their fields at another version, and its optional parts are those of this version.
use Rattle.std.proofs.Common.{◌≡◌, ℕ, ◌≤◌, Bool, true, false, Option, Some, None, List, refl, if◌then◌else◌, arith}
use Rattle.std.specs.Prelude.{map}
use Rattle.std.specs.List.{AllByRecursion}
use Rattle.std.proofs.lemmas.List.{length-map}
use Rattle.pol_fields.specs.declared.Field.{Field}
use Rattle.pol_fields.specs.declared.fields.TheConstants.{CONSTRAINT_FLAGS}
use Rattle.pol_cursor.specs.Parts.{CountedFits, OptionFits}
use Rattle.pol_constraints.specs.declared.ConstraintItem.{ConstraintItem}
use Rattle.pol_constraints.specs.declared.ConstraintRec.{ConstraintRec}
use Rattle.pol_constraints.specs.declared.TypeSet.{TypeSet}
use Rattle.pol_constraints.specs.ConstraintRecord.{has_names, has_type_set, TypeSetFits, ItemFits, ConstraintFits}
use Rattle.pol_classes.specs.declared.ClassRec.{ClassRec}
use Rattle.pol_classes.specs.ClassRecord.{ClassFits}
use Rattle.pol_trans.specs.declared.NameTransRec.{NameTransRec}
use Rattle.pol_trans.specs.declared.NameGroupRec.{NameGroupRec}
use Rattle.pol_trans.specs.NameTransRecord.{NameTransFits}
use Rattle.pol_trans.specs.NameGroupRecord.{NameGroupFits}
use Rattle.pol_tree.specs.declared.Tree.{Tree}
use Rattle.pol_tree.specs.TreeRanges.{TreeFits}
use Rattle.pol_tree.specs.OptionalParts.{shape_of_part}
use Rattle.pol_tree.specs.RecordShapes.{shape_of_item, shape_of_constraint, shape_of_class}
use Rattle.pol_tree.proofs.Wrongs.{none-first, none-last}
use Rattle.pol_versions.specs.Conversion.{type_set_of, item_at, constraint_at, class_at}
use Rattle.pol_moved.proofs.GrantedPolicy.{none-in}
use Rattle.pol_moved.proofs.ListFacts.{all-so, all-map}
use Rattle.pol_sound.proofs.MovedTree.{moved_tree}

-- ---- classes

types-fit : (was is : Bool) (types : Option TypeSet) → OptionFits was TypeSetFits types → OptionFits is TypeSetFits (if is then Some (type_set_of types) else None)
types-fit was false types fits = refl
types-fit was true None fits = (refl, record { types = record { count = omega arith; nodes = tt }; negated = record { count = omega arith; nodes = tt }; flags = omega arith })
types-fit true true (Some set) fits = (refl, fits.1)
types-fit false true (Some set) fits = absurd (let e = fits.0 in cc)

module _ (old version : ℕ) where
  item-fits : (item : ConstraintItem) → ItemFits old item → ItemFits version (item_at version item)
  item-fits item fits = record {
    kind = fits.kind;
    attr = fits.attr;
    op = fits.op;
    names = fits.names;
    type_set = types-fit (has_type_set old item.kind) (has_type_set version item.kind) item.type_set fits.type_set;
  }

  constraint-fits : (c : ConstraintRec) → ConstraintFits old c → ConstraintFits version (constraint_at version c)
  constraint-fits c fits = record {
    permissions = fits.permissions;
    count = rw (length-map c.items (item_at version)) fits.count;
    items = all-map (ItemFits version) (item_at version) c.items (all-so c.items item-fits fits.items);
  }

  constraints-fit : (cs : List ConstraintRec) → AllByRecursion (ConstraintFits old) cs → AllByRecursion (ConstraintFits version) (map (constraint_at version) cs)
  constraints-fit cs fits = all-map (ConstraintFits version) (constraint_at version) cs (all-so cs constraint-fits fits)

  class-fits : (class : ClassRec) → ClassFits old class → ClassFits version (class_at version class)
  class-fits class fits = record {
    head = record {
      len = fits.head.len;
      common_len = fits.head.common_len;
      value = fits.head.value;
      nprim = fits.head.nprim;
      nel = fits.head.nel;
      ncons = rw (length-map class.constraints (constraint_at version)) fits.head.ncons;
    };
    permissions = fits.permissions;
    constraints = constraints-fit class.constraints fits.constraints;
    validatetrans = record { count = rw (length-map class.validatetrans (constraint_at version)) fits.validatetrans.count; items = constraints-fit class.validatetrans fits.validatetrans.items };
    default_user = fits.default_user;
    default_role = fits.default_role;
    default_range = fits.default_range;
    default_type = fits.default_type;
  }

-- ---- their shapes

part-shaped : {A : Type 0} (there : Bool) (fits : A → Type 0) (part : Option A) (field : Field) → OptionFits there fits part → shape_of_part there part field ≡ None
part-shaped true fits (Some x) field h = refl
part-shaped true fits None field h = absurd cc
part-shaped false fits (Some x) field h = absurd (let e = h.0 in cc)
part-shaped false fits None field h = refl

item-shaped : (version : ℕ) (item : ConstraintItem) → ItemFits version item → shape_of_item version item ≡ None
item-shaped version item fits =
    none-first _ _ (part-shaped (has_names item.kind) _ item.names CONSTRAINT_FLAGS fits.names) (none-first _ _ (part-shaped (has_type_set version item.kind) _ item.type_set CONSTRAINT_FLAGS fits.type_set) none-last)

constraint-shaped : (version : ℕ) (c : ConstraintRec) → ConstraintFits version c → shape_of_constraint version c ≡ None
constraint-shaped version c fits = none-in (shape_of_item version) c.items (all-so c.items (item-shaped version) fits.items)

pub class-shaped : (version : ℕ) (class : ClassRec) → ClassFits version class → shape_of_class version class ≡ None
class-shaped version class fits =
    let constraints = none-in (shape_of_constraint version) class.constraints (all-so class.constraints (constraint-shaped version) fits.constraints) in
    let trans = none-in (shape_of_constraint version) class.validatetrans (all-so class.validatetrans (constraint-shaped version) fits.validatetrans.items) in
    none-first _ _ constraints (none-first _ _ trans none-last)

-- ---- the tree

pub tree-fits : (tree : Tree) (version : ℕ) (entries : List NameTransRec) (groups : List NameGroupRec) → version ≤ 34 → TreeFits tree → CountedFits NameTransFits entries → CountedFits NameGroupFits groups → TreeFits (moved_tree version tree entries groups)
tree-fits tree version entries groups most fits entries-fit groups-fit = record {
  header = record { version = omega (arith, most); config = fits.header.config };
  capabilities = fits.capabilities;
  permissive = fits.permissive;
  nprims = fits.nprims;
  commons = fits.commons;
  classes = record {
    nprim = fits.classes.nprim;
    nel = rw (length-map tree.classes (class_at version)) fits.classes.nel;
    records = all-map (ClassFits version) (class_at version) tree.classes (all-so tree.classes (class-fits tree.version version) fits.classes.records);
  };
  roles = fits.roles;
  types = fits.types;
  users = fits.users;
  booleans = fits.booleans;
  levels = fits.levels;
  categories = fits.categories;
  avtab = fits.avtab;
  condlist = fits.condlist;
  roletrans = fits.roletrans;
  roleallow = fits.roleallow;
  nametrans = entries-fit;
  namegroup = groups-fit;
  sid = fits.sid;
  fs = fits.fs;
  port = fits.port;
  netif = fits.netif;
  node = fits.node;
  fsuse = fits.fsuse;
  node6 = fits.node6;
  ibpkey = fits.ibpkey;
  ibendport = fits.ibendport;
  genfs = fits.genfs;
  rangetrans = fits.rangetrans;
  typemap = fits.typemap;
}
