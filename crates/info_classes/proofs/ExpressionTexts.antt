-- Texts that are kept, and expressions that say the same.
use Rattle.std.proofs.Common.{◌≡◌, ℕ, zero, suc, ◌+◌, ◌<◌, List, [], ◌∷◌, ◌++◌, Bool, true, false, Option, Some, None, length, slice_get, get_or, take, refl, ap, sym, subst, ◌∙◌, eqb-true, arith}
use Rattle.pol_cursor.specs.References.{Named}
use Rattle.pol_bitmap.specs.declared.Node.{Node}
use Rattle.pol_expr.specs.declared.Symbol.{Symbol}
use Rattle.pol_expr.specs.Infix.{symbols_text}
use Rattle.pol_constraints.specs.declared.Junction.{Junction}
use Rattle.pol_constraints.specs.declared.ConstraintItem.{ConstraintItem}
use Rattle.pol_constraints.specs.ConstraintTexts.{comparison_text, constraint_text, constraint_words}
use Rattle.pol_symbols.specs.declared.symbols.Symbols.{Symbols}
use Rattle.pol_symbols.specs.PolicySymbols.{name_in}
use Rattle.std.specs.Prelude.{◌&&◌, nat_eq, not}
use Rattle.std.specs.List.{All}
use Rattle.std.proofs.lemmas.List.{take_more}
use Rattle.std.proofs.lemmas.List.Elements.{All-get_or}
use Rattle.std.proofs.lemmas.Option.{get_or_from_slice_get, slice_get-get_or, slice_get_within}
use Rattle.info_classes.specs.declared.constraint_entry.ConstraintEntry.{ConstraintEntry}
use Rattle.info_classes.specs.declared.expression_texts.ExpressionText.{ExpressionText}
use Rattle.info_classes.specs.Inner.ExpressionTexts.{IsAlike, IsKept, IsTextOf, SayTheSame}

-- ---- items

comparison_same : (named : Named) (item other : ConstraintItem) (set : Option (List Node)) → item.attr ≡ other.attr → item.op ≡ other.op → comparison_text named item set ≡ comparison_text named other set
comparison_same named item other None attr op = rw (attr, op) refl
comparison_same named item other (Some set) attr op = rw (attr, op) refl

pub alike : (item other : ConstraintItem) → item.kind ≡ other.kind → item.attr ≡ other.attr → item.op ≡ other.op → item.names ≡ other.names → IsAlike item other
alike item other kind attr op names = record {
  symbol = λ named. rw (kind, names, comparison_same named item other other.names attr op) refl;
}

pub one_more : (item other : ConstraintItem) (items others : List ConstraintItem) → IsAlike item other → SayTheSame items others → SayTheSame (item ∷ items) (other ∷ others)
one_more item other items others one all = record { symbols = λ named. rw (one.symbol named, all.symbols named) refl }

-- ---- texts

pub same_text : (named : Named) (items others : List ConstraintItem) → SayTheSame items others → constraint_text named items ≡ constraint_text named others
unfolding constraint_text
same_text named items others same = ap (λ (ss : List (Symbol (List ℕ) Junction)). symbols_text constraint_words ss) (same.symbols named)

text_within : (symbols : Symbols) (text : List ℕ) (entries : List ConstraintEntry) (number : ℕ) → IsTextOf symbols text (slice_get entries number) → number < length entries
text_within symbols text [] number is = absurd is
text_within symbols text (entry ∷ entries) zero is = omega arith
text_within symbols text (entry ∷ entries) (suc number) is = omega (arith, text_within symbols text entries number is)

pub kept_within : (symbols : Symbols) (entries : List ConstraintEntry) (kept : ExpressionText) → IsKept symbols entries kept → kept.number < length entries
kept_within symbols entries kept is = text_within symbols kept.text.items entries kept.number is

kept_says : (symbols : Symbols) (entries : List ConstraintEntry) (kept : ExpressionText) (entry : ConstraintEntry) (items : List ConstraintItem) → IsKept symbols entries kept
    → slice_get entries kept.number ≡ Some entry → SayTheSame entry.constraint.items items → kept.text.items ≡ constraint_text (name_in symbols) items
kept_says symbols entries kept entry items is at same =
    subst (IsTextOf symbols kept.text.items) at is ∙ same_text (name_in symbols) entry.constraint.items items same

-- one of these texts, and items that say the same as the expression of the entry of its number
pub found_says : (symbols : Symbols) (entries : List ConstraintEntry) (texts : List ExpressionText) (i : ℕ) (kept : ExpressionText) (d : ConstraintEntry) (items : List ConstraintItem) → All (IsKept symbols entries) texts
    → i < length texts → kept ≡ get_or texts i kept → SayTheSame (get_or entries kept.number d).constraint.items items → kept.text.items ≡ constraint_text (name_in symbols) items
found_says symbols entries texts i kept d items all lt at same =
    let is : IsKept symbols entries kept = subst (IsKept symbols entries) (sym at) (All-get_or (IsKept symbols entries) texts i kept lt all) in
    kept_says symbols entries kept (get_or entries kept.number d) items is (slice_get-get_or entries kept.number d (kept_within symbols entries kept is)) same

-- ---- nodes

node_then : (nodes : List Node) (i : ℕ) (node : Node) → slice_get nodes i ≡ Some node → take (i + 1) nodes ≡ take i nodes ++ node ∷ []
node_then nodes i node at =
    take_more nodes i node (slice_get_within nodes i node at) ∙ ap (λ (n : Node). take i nodes ++ n ∷ []) (get_or_from_slice_get nodes i node node at)

pub node_more : (nodes others : List Node) (i : ℕ) (node other : Node) → slice_get nodes i ≡ Some node → slice_get others i ≡ Some other → node ≡ other → take i nodes ≡ take i others → take (i + 1) nodes ≡ take (i + 1) others
node_more nodes others i node other at there same so_far = rw (node_then nodes i node at, node_then others i other there, so_far, same) refl

both_true : (a b : Bool) → not (a && b) ≡ false → (a ≡ true) × (b ≡ true)
both_true true true e = (refl, refl)
both_true true false e = absurd (cc e)
both_true false b e = absurd (cc e)

pub same_node : (node other : Node) → not (nat_eq node.start other.start && nat_eq node.map other.map) ≡ false → node ≡ other
same_node node other e =
    let h = both_true (nat_eq node.start other.start) (nat_eq node.map other.map) e in
    rw (eqb-true node.start other.start h.0, eqb-true node.map other.map h.1) refl
