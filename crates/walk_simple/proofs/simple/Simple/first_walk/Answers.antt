use Rattle.std.proofs.Common.{◌≡◌, ℕ, List, [], ◌∷◌, sym, ap, ◌∙◌, refl, Some, slice_get}
use Rattle.walk_simple.specs.Rooms.{AllWalks}
use Rattle.walk_simple.proofs.simple.Simple.first_walk.Goals as goal

some_walks : {P : Type 0} (w : List ℕ) (rest : List (List ℕ)) (ws : List (List ℕ)) → ws ≡ w ∷ rest → ws ≡ [] → P
some_walks w rest ws is none = absurd cc

pub returns-clause-none : goal.returns-clause-none
returns-clause-none c =
    let r = c.if-not-descend.ensures.some refl [] c.self.inside.from c.in_ok-path.ensures.nodes in
    let is : c.args.self.now.walks ≡ r.0 ∷ r.1 = ap (λ (s : AllWalks). s.walks) (sym c.self.view_is) ∙ r.3 in
    ((λ e. absurd cc), (λ none. some_walks r.0 r.1 c.args.self.now.walks is none))

pub returns-clause-some : goal.returns-clause-some
returns-clause-some c =
    let r = c.if-not-descend.ensures.some refl [] c.self.inside.from c.in_ok-path.ensures.nodes in
    let is : c.args.self.now.walks ≡ r.0 ∷ r.1 = ap (λ (s : AllWalks). s.walks) (sym c.self.view_is) ∙ r.3 in
    ap (λ (ws : List (List ℕ)). slice_get ws 0) is ∙ ap Some (sym r.2)
