-- The order of names by their bytes.
use Rattle.std.proofs.Common.{◌≡◌, ℕ, true, false, List, refl, sym, ap, ◌∙◌, subst}
use Rattle.std.specs.declared.cmp.Ordering.{Ordering}
use Rattle.std.specs.declared.cmp.Ordering.TheVariants.{Less, Equal, Greater}
use Rattle.std.specs.Ordering.{is_lt, is_eq, nat_cmp, ordering_reverse}
use Rattle.std.specs.Cmp.Lexicographic.{slice_cmp}
use Rattle.std.specs.Str.{bytes_eq}
use Rattle.std.proofs.lemmas.Cmp.{nat_list_cmp_total, tied_itself}
use Rattle.std.proofs.lemmas.Map.Text.{is_eq-slice_cmp}
use Rattle.std.proofs.lemmas.Slice.Eq.{bytes_eq-Decides}
use Rattle.pol_symtab.specs.SymbolTables.{is_below}

abbrev pub compare : List ℕ → List ℕ → Ordering
compare = slice_cmp nat_cmp

less-go : (o : Ordering) → is_lt o ≡ true → o ≡ Less
less-go Less e = refl
less-go Equal e = absurd cc
less-go Greater e = absurd cc

pub below_is_less : (a b : List ℕ) → is_below a b ≡ true → compare a b ≡ Less
below_is_less a b e = less-go (compare a b) e

pub less_is_below : (a b : List ℕ) → compare a b ≡ Less → is_below a b ≡ true
less_is_below a b e = ap is_lt e

pub greater_is_below : (a b : List ℕ) → compare a b ≡ Greater → is_below b a ≡ true
greater_is_below a b e = ap is_lt (nat_list_cmp_total.antisymm b a ∙ ap ordering_reverse e)

pub below_trans : (a b d : List ℕ) → is_below a b ≡ true → is_below b d ≡ true → is_below a d ≡ true
below_trans a b d e f = ap is_lt (nat_list_cmp_total.trans a b d (below_is_less a b e) (below_is_less b d f))

pub not_below_itself : (a : List ℕ) → is_below a a ≡ false
not_below_itself a = ap is_lt (tied_itself nat_list_cmp_total a)

pub not_below_back : (a b : List ℕ) → is_below a b ≡ true → is_below b a ≡ false
not_below_back a b e = ap is_lt (nat_list_cmp_total.antisymm b a ∙ ap ordering_reverse (below_is_less a b e))

-- equal names are the same
pub same_name : (a b : List ℕ) → bytes_eq a b ≡ true → a ≡ b
same_name a b e = (bytes_eq-Decides a b).0 e

pub name_itself : (a : List ℕ) → bytes_eq a a ≡ true
name_itself a = (bytes_eq-Decides a a).1 refl

pub equal_is_same : (a b : List ℕ) → compare a b ≡ Equal → a ≡ b
equal_is_same a b e = same_name a b (sym (is_eq-slice_cmp a b) ∙ ap is_eq e)

-- of two names one comes first, unless they are the same
pub below_or_same : (a b : List ℕ) → is_below a b ≡ false → is_below b a ≡ false → a ≡ b
below_or_same a b e f = go (compare a b) refl
  where
    go : (o : Ordering) → compare a b ≡ o → a ≡ b
    go Less h = absurd (cc (e, less_is_below a b h))
    go Equal h = equal_is_same a b h
    go Greater h = absurd (cc (f, greater_is_below a b h))

-- what a name compares as, by another spelling of it
pub compared : (a b other : List ℕ) (o : Ordering) → a ≡ b → compare a other ≡ o → compare b other ≡ o
compared a b other o e h = subst (λ (n : List ℕ). compare n other ≡ o) e h
