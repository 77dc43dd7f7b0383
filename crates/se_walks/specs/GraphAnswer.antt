-- The answer of a tool over a graph of types: the edges of a source, or walks from it to a target, around excluded types. The graph is that
-- of all rules of a policy, or of those that are enabled where states of booleans are stated.
use Rattle.std.specs.Prelude.{ℕ, Bool, not, ◌&&◌, List, Option, if◌then◌else◌}
use Rattle.std.specs.List.{concat}
use Rattle.pol_file.specs.declared.Parts.{Parts}
use Rattle.counted_rules.specs.CountedRules.{Counted}
use Rattle.se_items.specs.Paging.{page}
use Rattle.se_words.specs.Options.{Named}
use Rattle.se_words.specs.States.{State}
use Rattle.se_status.specs.Conclusion.{Answer, text_unless}
use Rattle.se_walks.specs.GraphItems.{items_from}
use Rattle.se_walks.specs.StatedRules.{first_unknown_name, rules_asked}
use Rattle.se_walks.specs.TypeNames.{ends_named, is_excluded, type_words}
use Rattle.se_walks.specs.WalkTexts.{EdgeWords}

-- what is asked of a graph of types: with a target all shortest walks or, where a number is given, all of at most so many steps that
-- have no type twice
pub record GraphAsks : Type 0 where
  pub source : Named
  pub target : Option Named
  pub all : Option ℕ
  pub reverse : Bool
  pub states : Option (List State)
  pub excluded : List Named
  pub from : ℕ
  pub limit : Option ℕ

-- an edge between two types that are not excluded
unfoldable pub is_listed : (ℕ → ℕ → Bool) → (ℕ → Bool) → ℕ → ℕ → Bool
is_listed edge excluded a b = edge a b && not (excluded a) && not (excluded b)

-- such an edge, or one back in the reverse
abbrev pub is_edge : (ℕ → ℕ → Bool) → (ℕ → Bool) → Bool → ℕ → ℕ → Bool
is_edge edge excluded reverse a b = if reverse then is_listed edge excluded b a else is_listed edge excluded a b

-- a type is one of those that are excluded
abbrev pub excluded_in : GraphAsks → Parts → ℕ → Bool
excluded_in asks policy = is_excluded policy.symbols asks.excluded

-- the edges of the source, or the walks to the target
abbrev pub graph_items : EdgeWords → (ℕ → ℕ → Bool) → GraphAsks → Parts → List (List ℕ)
graph_items words edge asks policy =
    items_from words (is_edge edge (excluded_in asks policy) asks.reverse) policy (excluded_in asks policy) (ends_named policy asks.source asks.target asks.all asks.reverse)

-- the text of the items that are asked for
unfoldable pub graph_text : EdgeWords → (ℕ → ℕ → Bool) → GraphAsks → Parts → List ℕ
graph_text words edge asks policy = concat (page asks.from asks.limit (graph_items words edge asks policy))

-- the least number of a word that names no type, or no boolean
abbrev pub unknown_in : GraphAsks → Parts → Option ℕ
unknown_in asks policy = first_unknown_name policy (type_words asks.source asks.target asks.excluded) asks.states

-- the rules that count
abbrev pub rules_in : GraphAsks → Parts → Counted
rules_in asks policy = rules_asked policy asks.states

-- their text, unless a word names none
unfoldable pub graph_answer : EdgeWords → (ℕ → ℕ → Bool) → GraphAsks → Parts → Answer
graph_answer words edge asks policy = text_unless (unknown_in asks policy) (graph_text words edge asks policy)
