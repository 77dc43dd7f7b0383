-- The types that words name: two ends, and those that are excluded.
use Rattle.std.proofs.Common.{◌≡◌, ◌∙◌, ℕ, Bool, true, false, List, [], ◌∷◌, Option, Some, None, Result, Ok, ap, subst, sym, map}
use Rattle.std.specs.Prelude.{if◌then◌else◌}
use Rattle.std.specs.List.{concat}
use Rattle.pol_bitmap.specs.declared.Node.{Node}
use Rattle.pol_bitmap.specs.Nodes.{has_bit}
use Rattle.pol_file.specs.declared.Parts.{Parts}
use Rattle.pol_symbols.specs.declared.Symbols.{Symbols}
use Rattle.se_items.specs.Paging.{page}
use Rattle.se_items.specs.Writing.{Sends}
use Rattle.se_words.specs.Options.{Named, named_view}
use Rattle.se_words.specs.States.{State}
use Rattle.se_words.specs.declared.Named.{Named as NamedWord}
use Rattle.se_items.specs.declared.WriteEnd.{WriteEnd}
use Rattle.se_outside.specs.Outside.{SinkState}
use Rattle.se_status.specs.LeastWord.{least, numbers_of}
use Rattle.se_status.proofs.LeastNumbers.{least-assoc, least-none, one-more}
use Rattle.std.specs.Option.{option_to_list}
use Rattle.se_walks.specs.GraphAnswer.{GraphAsks, excluded_in, graph_text, is_edge}
use Rattle.se_walks.specs.GraphItems.{items_between}
use Rattle.se_walks.specs.StatedRules.{first_unknown_name}
use Rattle.se_walks.specs.TypeNames.{ends_named, first_unknown, is_excluded, type_words, unknown_word}
use Rattle.se_walks.specs.WalkTexts.{EdgeWords}
use Rattle.se_walks.specs.declared.graph_items.Ends.{Ends}
use Rattle.se_walks.proofs.NoItems.{no_items_sent}

-- a word names no type, and nothing is written
pub no_ends_sent : {T : Type 0} (words : EdgeWords) (edge : ℕ → ℕ → Bool) (asks : GraphAsks) (policy : Parts) (sink : SinkState) (u : T)
    → ends_named policy asks.source asks.target asks.all asks.reverse ≡ None → Sends sink sink (graph_text words edge asks policy) (Ok u)
unfolding graph_text
no_ends_sent words edge asks policy sink u none = rw none (no_items_sent sink asks.from asks.limit u)

-- what lies between the ends is the text
pub between_sent : {T : Type 0} (words : EdgeWords) (edge : ℕ → ℕ → Bool) (asks : GraphAsks) (policy : Parts) (ends : Ends) (old new : SinkState) (result : Result T WriteEnd)
    → ends_named policy asks.source asks.target asks.all asks.reverse ≡ Some ends
    → Sends old new (concat (page asks.from asks.limit (items_between words (is_edge edge (excluded_in asks policy) asks.reverse) policy (excluded_in asks policy) ends))) result
    → Sends old new (graph_text words edge asks policy) result
unfolding graph_text
between_sent words edge asks policy ends old new result named sends = rw named sends

-- the words one after the other
pub all_words : (policy : Parts) (source : Named) (target : Option Named) (excluded : List Named)
    → least (least (unknown_word policy source) (first_unknown policy (option_to_list target))) (first_unknown policy excluded) ≡ first_unknown policy (type_words source target excluded)
all_words policy source None excluded = ap (λ o. least o (first_unknown policy excluded)) (least-none (unknown_word policy source)) ∙ sym (one-more (unknown_word policy source) (numbers_of (unknown_word policy) excluded))
all_words policy source (Some target) excluded =
    ap (λ o. least (least (unknown_word policy source) o) (first_unknown policy excluded)) (one-more (unknown_word policy target) [] ∙ least-none (unknown_word policy target))
    ∙ least-assoc (unknown_word policy source) (unknown_word policy target) (first_unknown policy excluded)
    ∙ ap (least (unknown_word policy source)) (sym (one-more (unknown_word policy target) (numbers_of (unknown_word policy) excluded)))
    ∙ sym (one-more (unknown_word policy source) (numbers_of (unknown_word policy) (target ∷ excluded)))

-- a set has the types that are excluded
abbrev pub AreExcluded : Symbols → List Named → List Node → Type 0
AreExcluded symbols names excluded = (type : ℕ) → has_bit excluded type ≡ is_excluded symbols names type

-- as the set that was made of the words has
pub excluded-are : (symbols own : Symbols) (names given : List NamedWord) (excluded : List Node) → symbols ≡ own → given ≡ names
    → AreExcluded symbols (map named_view given) excluded → AreExcluded own (map named_view names) excluded
excluded-are symbols own names given excluded is same h =
    subst (λ (s : Symbols). AreExcluded s (map named_view names) excluded) is (subst (λ (ns : List NamedWord). AreExcluded symbols (map named_view ns) excluded) same h)

-- each word names a type, or a boolean
pub none-unknown : (policy : Parts) (source : Named) (target : Option Named) (states : Option (List State)) (names given : List NamedWord) → given ≡ names
    → first_unknown_name policy (type_words source target (map named_view given)) states ≡ None → first_unknown_name policy (type_words source target (map named_view names)) states ≡ None
none-unknown policy source target states names given same none =
    subst (λ (ns : List NamedWord). first_unknown_name policy (type_words source target (map named_view ns)) states ≡ None) same none

-- an edge, or one back in the reverse
pub either-way : (r p q s t : Bool) → p ≡ s → q ≡ t → (if r then p else q) ≡ (if r then s else t)
either-way true p q s t e f = e
either-way false p q s t e f = f
