-- Lists and records that are equal part by part.
use Rattle.std.proofs.Common.{◌≡◌, ◌∷◌, ℕ, List, Bool, Option, refl}
use Rattle.se_words.specs.Options.{Named}
use Rattle.se_words.specs.States.{State}
use Rattle.se_options.specs.DomRequest.{DomAsks}
use Rattle.se_options.specs.FlowRequest.{FlowAsks}
use Rattle.rule_criteria.specs.declared.criteria.Criteria.{Criteria}
use Rattle.rule_criteria.specs.declared.criteria.Criterion.{Criterion}

pub first-rest : {A : Type 0} {x y : A} {xs ys : List A} → x ≡ y → xs ≡ ys → x ∷ xs ≡ y ∷ ys
first-rest first rest = rw (first, rest) refl

abbrev pub criteria : List Bool → Option Criterion → Option Criterion → Option Criterion → Option Criterion → Option Criterion → Option Criterion → Option Criterion → Criteria
criteria kinds source target class perms xperms default bools =
    record { kinds = kinds; source = source; target = target; class = class; perms = perms; xperms = xperms; default = default; bools = bools }

pub same-criteria : {kinds kinds' : List Bool} {source source' target target' class class' perms perms' xperms xperms' default default' bools bools' : Option Criterion}
    → kinds ≡ kinds' → source ≡ source' → target ≡ target' → class ≡ class' → perms ≡ perms' → xperms ≡ xperms' → default ≡ default' → bools ≡ bools'
    → criteria kinds source target class perms xperms default bools ≡ criteria kinds' source' target' class' perms' xperms' default' bools'
same-criteria a b c d e f g h = rw (a, b, c, d, e, f, g, h) refl

abbrev pub dom : Named → Named → Option Named → Bool → Option ℕ → Bool → List Named → Option (List State) → ℕ → Option ℕ → DomAsks
dom policy source target shortest all reverse excluded states from limit =
    record { policy = policy; source = source; target = target; shortest = shortest; all = all; reverse = reverse; excluded = excluded; states = states; from = from; limit = limit }

pub same-dom : (policy source : Named) {target target' : Option Named} {shortest shortest' reverse reverse' : Bool} {excluded excluded' : List Named} {states states' : Option (List State)} {from from' : ℕ} {all all' limit limit' : Option ℕ}
    → target ≡ target' → shortest ≡ shortest' → all ≡ all' → reverse ≡ reverse' → excluded ≡ excluded' → states ≡ states' → from ≡ from' → limit ≡ limit'
    → dom policy source target shortest all reverse excluded states from limit ≡ dom policy source target' shortest' all' reverse' excluded' states' from' limit'
same-dom policy source a b c d e f g h = rw (a, b, c, d, e, f, g, h) refl

abbrev pub flow : Named → Named → Named → Option Named → Bool → Option ℕ → ℕ → Bool → List Named → Option (List State) → ℕ → Option ℕ → FlowAsks
flow policy map_file source target shortest all least reverse excluded states from limit = record {
  policy = policy;
  map_file = map_file;
  source = source;
  target = target;
  shortest = shortest;
  all = all;
  least = least;
  reverse = reverse;
  excluded = excluded;
  states = states;
  from = from;
  limit = limit;
}

pub same-flow : (policy map_file source : Named) {target target' : Option Named} {shortest shortest' reverse reverse' : Bool} {least least' : ℕ} {excluded excluded' : List Named} {states states' : Option (List State)} {from from' : ℕ} {all all' limit limit' : Option ℕ}
    → target ≡ target' → shortest ≡ shortest' → all ≡ all' → least ≡ least' → reverse ≡ reverse' → excluded ≡ excluded' → states ≡ states' → from ≡ from' → limit ≡ limit'
    → flow policy map_file source target shortest all least reverse excluded states from limit ≡ flow policy map_file source target' shortest' all' least' reverse' excluded' states' from' limit'
same-flow policy map_file source a b c d e f g h i = rw (a, b, c, d, e, f, g, h, i) refl
