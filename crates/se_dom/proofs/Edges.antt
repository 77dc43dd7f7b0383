-- The edges of the graph are those that are listed.
use Rattle.std.proofs.Common.{◌≡◌, ◌∙◌, ℕ, Bool, List, ap, refl}
use Rattle.std.proofs.Math.Path.{fun_ext}
use Rattle.pol_bitmap.specs.declared.Node.{Node}
use Rattle.pol_bitmap.specs.Nodes.{has_bit}
use Rattle.pol_file.specs.declared.Parts.{Parts}
use Rattle.counted_rules.specs.CountedRules.{Counted}
use Rattle.dom_trans.specs.DomainEdges.{Domains, domain_edge, is_step}
use Rattle.dom_trans.specs.Transitions.{is_transition}
use Rattle.se_options.specs.DomRequest.{DomAsks}
use Rattle.se_walks.specs.GraphAnswer.{excluded_in, is_edge, is_listed}
use Rattle.se_walks.specs.GraphItems.{items_between}
use Rattle.se_walks.specs.declared.Ends.{Ends}
use Rattle.se_walks.proofs.AskedTypes.{AreExcluded, either-way}
use Rattle.se_dom.specs.DomAnswer.{dom_graph}
use Rattle.se_dom.specs.DomTexts.{dom_words}

step-is : (asks : DomAsks) (policy : Parts) (rules : Counted) (excluded : List Node) (reverse : Bool) (a b : ℕ) → AreExcluded policy.symbols asks.excluded excluded
    → is_step (record { rules = rules; excluded = excluded; reverse = reverse }) a b ≡ is_listed (is_transition rules) (excluded_in (dom_graph asks) policy) a b
unfolding is_step is_listed
step-is asks policy rules excluded reverse a b same = rw (same a, same b) refl

edges-are : (asks : DomAsks) (policy : Parts) (rules : Counted) (excluded : List Node) → AreExcluded policy.symbols asks.excluded excluded
    → domain_edge (record { rules = rules; excluded = excluded; reverse = asks.reverse }) ≡ is_edge (is_transition rules) (excluded_in (dom_graph asks) policy) asks.reverse
edges-are asks policy rules excluded same =
    fun_ext (λ a. fun_ext (λ b. either-way asks.reverse _ _ _ _ (step-is asks policy rules excluded asks.reverse b a same) (step-is asks policy rules excluded asks.reverse a b same)))

-- what is listed of the graph is what is listed of the rules
pub items-are : (asks : DomAsks) (policy : Parts) (rules : Counted) (excluded : List Node) (graph : Domains) (ends : Ends) → AreExcluded policy.symbols asks.excluded excluded
    → graph ≡ record { rules = rules; excluded = excluded; reverse = asks.reverse }
    → items_between (dom_words graph.rules) (domain_edge graph) policy (has_bit excluded) ends
    ≡ items_between (dom_words rules) (is_edge (is_transition rules) (excluded_in (dom_graph asks) policy) asks.reverse) policy (excluded_in (dom_graph asks) policy) ends
items-are asks policy rules excluded graph ends same is =
    let around : has_bit excluded ≡ excluded_in (dom_graph asks) policy = fun_ext same in
    ap (λ (g : Domains). items_between (dom_words g.rules) (domain_edge g) policy (has_bit excluded) ends) is
    ∙ ap (λ (edge : ℕ → ℕ → Bool). items_between (dom_words rules) edge policy (has_bit excluded) ends) (edges-are asks policy rules excluded same)
    ∙ ap (λ (without : ℕ → Bool). items_between (dom_words rules) (is_edge (is_transition rules) (excluded_in (dom_graph asks) policy) asks.reverse) policy without ends) around
