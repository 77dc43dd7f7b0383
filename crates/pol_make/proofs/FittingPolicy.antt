-- Each number of a policy that is made fits its field.
use Rattle.std.proofs.Common.{ℕ, ◌≤◌, List, [], refl, sym, subst, arith}
use Rattle.pol_cursor.specs.Parts.{CountedFits}
use Rattle.pol_bitmap.specs.declared.Node.{Node}
use Rattle.pol_bitmap.specs.Bitmap.{BitmapFits}
use Rattle.pol_avtab.specs.declared.AvRec.{AvRec}
use Rattle.pol_avtab.specs.AvRecord.{AvFits}
use Rattle.pol_contexts.specs.SidRecord.{SidFits}
use Rattle.pol_tree.specs.TreeRanges.{TreeFits}
use Rattle.pol_make.specs.MadeSymbols.{made_nprims}
use Rattle.pol_make.specs.MadeRules.{allow, made_rules, made_sids, made_rows}
use Rattle.pol_make.specs.Made.{made}
use Rattle.pol_moved.proofs.GrantedSets.{set-fits}
use Rattle.pol_make.proofs.GrantedFew.{no-bits, one-bit, commons-fit, roles-fit, booleans-fit, levels-fit}
use Rattle.pol_make.proofs.GrantedTypes.{types-fit, categories-fit}
use Rattle.pol_make.proofs.GrantedClasses.{classes-fit}
use Rattle.pol_make.proofs.GrantedUsers.{users-fit}
use Rattle.pol_make.proofs.GrantedRules.{IsMadeRule, rules-made, length-made_rules}
use Rattle.pol_make.proofs.GrantedRows.{IsRow, rows-made}
use Rattle.pol_moved.proofs.ListFacts.{all-so}

rule-fits : (n : ℕ) → n ≤ 5000 → (av : AvRec) → IsMadeRule n av → AvFits av
rule-fits n most av made =
    let fits : AvFits (allow av.source av.target av.class made.permissions) =
    record { source = omega (arith, made.source.1, most); target = omega (arith, made.target.1, most); class = omega (arith, made.class.1); specified = omega arith; part = (refl, made.few) } in
    subst (λ (v : AvRec). AvFits v) (sym made.is) fits

rules-fit : (n : ℕ) → 20 ≤ n → n ≤ 5000 → CountedFits AvFits (made_rules n)
rules-fit n many most = record { count = omega (arith, length-made_rules n, most); items = all-so (made_rules n) (λ av is. rule-fits n most av is) (rules-made n many) }

row-fits : (limit : ℕ) (row : List Node) → IsRow limit row → BitmapFits row
row-fits limit row h = subst (λ (ns : List Node). BitmapFits ns) (sym h.is) (set-fits h.are)

-- no records
none-fit : {A : Type 0} (fits : A → Type 0) → CountedFits fits []
none-fit fits = record { count = omega arith; items = tt }

sids-fit : CountedFits SidFits made_sids
unfolding made_sids
sids-fit = record {
  count = omega arith;
  items = (
    record {
      sid = omega arith;
      context = record { user = omega arith; role = omega arith; type_value = omega arith; range = record { n = omega arith; low = omega arith; low_categories = set-fits no-bits; high = refl } };
    },
    tt,
  );
}

pub made-fits : (n : ℕ) → 20 ≤ n → n ≤ 5000 → TreeFits (made n)
unfolding made made_nprims
made-fits n many most = record {
  header = record { version = omega arith; config = omega arith };
  capabilities = set-fits (one-bit 1 (omega arith));
  permissive = set-fits no-bits;
  nprims = refl;
  commons = commons-fit;
  classes = classes-fit;
  roles = roles-fit n most;
  types = types-fit n most;
  users = users-fit;
  booleans = booleans-fit;
  levels = levels-fit;
  categories = categories-fit 1024 (omega arith);
  avtab = rules-fit n many most;
  condlist = none-fit _;
  roletrans = none-fit _;
  roleallow = none-fit _;
  nametrans = none-fit _;
  namegroup = none-fit _;
  sid = sids-fit;
  fs = none-fit _;
  port = none-fit _;
  netif = none-fit _;
  node = none-fit _;
  fsuse = none-fit _;
  node6 = none-fit _;
  ibpkey = none-fit _;
  ibendport = none-fit _;
  genfs = none-fit _;
  rangetrans = none-fit _;
  typemap = all-so (made_rows n) (λ row is. row-fits _ row is) (rows-made n many most);
}
