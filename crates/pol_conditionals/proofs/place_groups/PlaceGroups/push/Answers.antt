use Rattle.std.proofs.Common.{◌≡◌, ◌∙◌, ◌++◌, ◌∷◌, [], List, ℕ, length, sym, ap}
use Rattle.std.proofs.lemmas.List.{length-map}
use Rattle.pol_cursor.specs.References.{Placed}
use Rattle.pol_avtab.specs.declared.AvRec.{AvRec}
use Rattle.pol_conditionals.specs.Inner.PlaceGroups.{places_of}
use Rattle.pol_conditionals.proofs.Groups.{groups_push}
use Rattle.pol_conditionals.proofs.place_groups.PlaceGroups.push.Goals as goal

pub returns : goal.returns
returns c =
    let g = c.self.inside in
    let more = places_of c.args.rules in
    let long : c.len-len.result ≡ length more = c.len-len.ensures ∙ sym (length-map c.args.rules (λ (r : Placed AvRec). r.place)) in
    rw (c.in_ok-push_places.ensures.ok, c.in_ok-push.ensures.items, c.len-first.ensures, g.places.ok.0, long) (groups_push g.places.items more g.spans.items c.self.invariant ∙ ap (λ (groups : List (List ℕ)). groups ++ more ∷ []) c.self.view_is)
