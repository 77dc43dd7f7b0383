-- A version that loses no part of a tree has room for its rules and its tables.
use Rattle.std.proofs.Common.{inl, inr, ◌≡◌, ℕ, ◌≤◌, Bool, true, false, Option, Some, None, List, [], ◌∷◌, refl, if◌then◌else◌}
use Rattle.std.specs.Prelude.{◌&&◌, ◌||◌, not, nat_lt, is_some}
use Rattle.std.specs.List.{AllByRecursion}
use Rattle.std.proofs.lemmas.Bool.{cases_lt, lt-ltb}
use Rattle.pol_avtab.specs.declared.AvRec.{AvRec}
use Rattle.pol_avtab.specs.declared.AvPart.{AvPart}
use Rattle.pol_avtab.specs.declared.AvPart.TheVariants.{Data, Extended}
use Rattle.pol_avtab.specs.AvRecord.{is_extended, PartFits, AvFits}
use Rattle.pol_avtab.specs.XPerms.{xperms_of}
use Rattle.pol_conditionals.specs.declared.CondNodeRec.{CondNodeRec}
use Rattle.pol_conditionals.specs.CondNodeRecord.{CondNodeFits}
use Rattle.pol_contexts.specs.ContextTables.{has_infiniband}
use Rattle.pol_tree.specs.declared.Tree.{Tree}
use Rattle.pol_tree.specs.TreeRanges.{TreeFits}
use Rattle.pol_unheld.specs.declared.Unheld.{Unheld}
use Rattle.pol_unheld.specs.declared.Unheld.TheVariants.{Extended as Unextended, ConditionalExtended, Infiniband}
use Rattle.pol_versions.specs.Losses.{is_extended_rule, has_extended, is_extended_node, has_extended_node, is_there, lost_part}
use Rattle.pol_moved.proofs.HeldRules.{HeldFits, HeldNode}
use Rattle.pol_sound.proofs.KeptRules.{HoldsRules}

-- ---- tests that fail

or-false : (a b : Bool) → (a || b) ≡ false → (a ≡ false) × (b ≡ false)
or-false true b e = absurd cc
or-false false b e = (refl, e)

-- where a test and another fail together, the other fails if the first does not
and-false : (a b : Bool) → (a && b) ≡ false → a ≡ true → b ≡ false
and-false true b e t = e
and-false false b e t = absurd cc

not-true : (b : Bool) → b ≡ false → not b ≡ true
not-true b e = rw e refl

unless-lost : (b : Bool) (part : Unheld) (others : Option Unheld) → (if b then Some part else others) ≡ None → (b ≡ false) × (others ≡ None)
unless-lost true part others e = absurd cc
unless-lost false part others e = (refl, e)

none-there : {A : Type 0} (xs : List A) → is_there xs ≡ false → xs ≡ []
none-there [] e = refl
none-there (x ∷ xs) e = absurd cc

-- ---- rules

plain-rule : (extended : Bool) (part : AvPart) → PartFits extended part → is_some (xperms_of part) ≡ false → extended ≡ false
plain-rule extended (Data mask) fits e = fits.0
plain-rule extended (Extended xkind driver bits) fits e = absurd cc

-- rules of which none is extended are held
plain-held : (least version : ℕ) (rules : List AvRec) → AllByRecursion AvFits rules → has_extended rules ≡ false → AllByRecursion (HeldFits least version) rules
plain-held least version [] fits e = tt
plain-held least version (r ∷ rs) fits e =
    let parts = or-false (is_extended_rule r) (has_extended rs) e in
    (record { fits = fits.0; held = inl (plain-rule (is_extended r.specified) r.part fits.0.part parts.0) }, plain-held least version rs fits.1 parts.1)

-- and so is each at a version that has room for them
late-held : (least version : ℕ) (rules : List AvRec) → least ≤ version → AllByRecursion AvFits rules → AllByRecursion (HeldFits least version) rules
late-held least version [] most fits = tt
late-held least version (r ∷ rs) most fits = (record { fits = fits.0; held = inr most }, late-held least version rs most fits.1)

rules-held : (least version : ℕ) (rules : List AvRec) → AllByRecursion AvFits rules → (nat_lt version least ≡ true → has_extended rules ≡ false) → AllByRecursion (HeldFits least version) rules
rules-held least version rules fits none = elim (cases_lt version least) [
  | inl below ↦ plain-held least version rules fits (none (lt-ltb version least below))
  | inr most ↦ late-held least version rules most fits
]

nodes-held : (version : ℕ) (nodes : List CondNodeRec) → AllByRecursion CondNodeFits nodes → (nat_lt version 34 ≡ true → has_extended_node nodes ≡ false) → AllByRecursion (HeldNode version) nodes
nodes-held version [] fits none = tt
nodes-held version (n ∷ ns) fits none =
    let here : nat_lt version 34 ≡ true → is_extended_node n ≡ false = λ t. (or-false (is_extended_node n) (has_extended_node ns) (none t)).0 in
    let later : nat_lt version 34 ≡ true → has_extended_node ns ≡ false = λ t. (or-false (is_extended_node n) (has_extended_node ns) (none t)).1 in (
      record {
        fits = fits.0;
        true_rules = rules-held 34 version n.true_rules fits.0.true_rules.items (λ t. (or-false (has_extended n.true_rules) (has_extended n.false_rules) (here t)).0);
        false_rules = rules-held 34 version n.false_rules fits.0.false_rules.items (λ t. (or-false (has_extended n.true_rules) (has_extended n.false_rules) (here t)).1);
      },
      nodes-held version ns fits.1 later,
    )

-- ---- a tree

pub record HasRoom (tree : Tree) (version : ℕ) : Type 0 where
  pub rules : HoldsRules tree version
  pub ibpkey : has_infiniband version ≡ false → tree.ibpkey ≡ []
  pub ibendport : has_infiniband version ≡ false → tree.ibendport ≡ []

pub has-room : (tree : Tree) (version : ℕ) → TreeFits tree → lost_part tree version ≡ None → HasRoom tree version
has-room tree version fits e =
    let nodes = has_extended_node tree.condlist in
    let extended = unless-lost (nat_lt version 30 && (nodes || has_extended tree.avtab)) Unextended _ e in
    let conditional = unless-lost (nat_lt version 34 && nodes) ConditionalExtended _ extended.1 in
    let tables = unless-lost (not (has_infiniband version) && (is_there tree.ibpkey || is_there tree.ibendport)) Infiniband None conditional.1 in
    let none : has_infiniband version ≡ false → (is_there tree.ibpkey ≡ false) × (is_there tree.ibendport ≡ false) = λ absent.
    or-false (is_there tree.ibpkey) (is_there tree.ibendport) (and-false (not (has_infiniband version)) _ tables.0 (not-true (has_infiniband version) absent))
    in
    record {
      rules = record {
        table = rules-held 30 version tree.avtab fits.avtab.items (λ t. (or-false nodes (has_extended tree.avtab) (and-false (nat_lt version 30) _ extended.0 t)).1);
        nodes = nodes-held version tree.condlist fits.condlist.items (λ t. and-false (nat_lt version 34) nodes conditional.0 t);
      };
      ibpkey = λ absent. none-there tree.ibpkey (none absent).0;
      ibendport = λ absent. none-there tree.ibendport (none absent).1;
    }
