-- The types that the criteria of the ends ask for, criterion by criterion.
use Rattle.std.proofs.Common.{◌≡◌, Bool, true, false, cond, Option, Some, None, List, [], ◌∷◌, ◌++◌, refl, ap, ◌∙◌}
use Rattle.std.specs.Prelude.{nat_lt}
use Rattle.std.specs.Option.{option_or}
use Rattle.pol_bitmap.specs.declared.Node.{Node}
use Rattle.pol_file.specs.declared.Parts.{Parts}
use Rattle.rule_criteria.specs.declared.Criteria.{Criteria}
use Rattle.rule_criteria.specs.declared.Criterion.{Criterion}
use Rattle.rule_query.specs.declared.given.Aspect.{Aspect}
use Rattle.rule_query.specs.declared.given.Aspect.TheVariants.{Source, Target, Class, Permissions, Numbers, Default, Booleans}
use Rattle.rule_query.specs.declared.tests.Test.{Test}
use Rattle.rule_query.specs.GivenCriteria.{Given, given_as, in_word_order, source_given, target_given, with_all, with_given}
use Rattle.rule_query.specs.Queries.{AreTypesOf}
use Rattle.rule_query.specs.QueryTests.{first_of}

-- ---- the first of some things

or_none : {B : Type 0} (o : Option B) → option_or o None ≡ o
or_none None = refl
or_none (Some x) = refl

or-assoc : {B : Type 0} (a b c : Option B) → option_or a (option_or b c) ≡ option_or (option_or a b) c
or-assoc None b c = refl
or-assoc (Some x) b c = refl

first-append : {A B : Type 0} (f : A → Option B) (xs ys : List A) → first_of f (xs ++ ys) ≡ option_or (first_of f xs) (first_of f ys)
first-append f [] ys = refl
first-append f (x ∷ xs) ys = ap (option_or (f x)) (first-append f xs ys) ∙ or-assoc (f x) (first_of f xs) (first_of f ys)

first_added : {A B : Type 0} (f : A → Option B) (xs : List A) (x : A) → first_of f (xs ++ x ∷ []) ≡ option_or (first_of f xs) (f x)
first_added f xs x = first-append f xs (x ∷ []) ∙ ap (option_or (first_of f xs)) (or_none (f x))

-- ---- one more criterion

both_asked : (policy : Parts) (a b : Option Criterion) (x y : Option (List Node)) → AreTypesOf policy a x → AreTypesOf policy b y → AreTypesOf policy (option_or a b) (option_or x y)
both_asked policy None b None y h k = k
both_asked policy None b (Some set) y h k = absurd h
both_asked policy (Some criterion) b None y h k = absurd h
both_asked policy (Some criterion) b (Some set) y h k = h

pub asked_more : (policy : Parts) (f : Given → Option Criterion) (g : Test → Option (List Node)) (done : List Given) (old : List Test) (given : Given) (test : Test)
    → AreTypesOf policy (first_of f done) (first_of g old) → AreTypesOf policy (f given) (g test) → AreTypesOf policy (first_of f (done ++ given ∷ [])) (first_of g (old ++ test ∷ []))
asked_more policy f g done old given test h k = rw (first_added f done given, first_added g old test) (both_asked policy (first_of f done) (f given) (first_of g old) (g test) h k)

-- ---- the criteria in the order of their words

module _ (f : Given → Option Criterion) where
  -- one that is about something else
  other_given : (xs : List Given) (one : Given) → f one ≡ None → first_of f (with_given xs one) ≡ first_of f xs
  other_given [] one e = rw e refl
  other_given (x ∷ xs) one e = put (other_given xs one e) (nat_lt one.criterion.word x.criterion.word)
    where
      put : first_of f (with_given xs one) ≡ first_of f xs → (b : Bool) → first_of f (cond b (one ∷ x ∷ xs) (x ∷ with_given xs one)) ≡ option_or (f x) (first_of f xs)
      put later true = rw e refl
      put later false = ap (option_or (f x)) later

  neither : (a b : Option Criterion) → option_or a b ≡ None → (a ≡ None) × (b ≡ None)
  neither None b e = (refl, e)
  neither (Some criterion) b e = absurd cc

  -- the first one that is about it
  this_given : (xs : List Given) (one : Given) → first_of f xs ≡ None → first_of f (with_given xs one) ≡ f one
  this_given [] one e = or_none (f one)
  this_given (x ∷ xs) one e =
      let no = neither (f x) (first_of f xs) e in
      put no.0 no.1 (this_given xs one no.1) (nat_lt one.criterion.word x.criterion.word)
    where
      put : f x ≡ None → first_of f xs ≡ None → first_of f (with_given xs one) ≡ f one → (b : Bool) → first_of f (cond b (one ∷ x ∷ xs) (x ∷ with_given xs one)) ≡ f one
      put here there later true = rw (here, there) (or_none (f one))
      put here there later false = rw here later

  others_given : (xs : List Given) (aspect : Aspect) (o : Option Criterion) → ((criterion : Criterion) → f (record { aspect = aspect; criterion = criterion }) ≡ None) → first_of f (with_all xs (given_as aspect o)) ≡ first_of f xs
  others_given xs aspect None h = refl
  others_given xs aspect (Some criterion) h = other_given xs (record { aspect = aspect; criterion = criterion }) (h criterion)

  these_given : (xs : List Given) (aspect : Aspect) (o : Option Criterion) → first_of f xs ≡ None → ((criterion : Criterion) → f (record { aspect = aspect; criterion = criterion }) ≡ Some criterion) → first_of f (with_all xs (given_as aspect o)) ≡ o
  these_given xs aspect None e h = e
  these_given xs aspect (Some criterion) e h = this_given xs (record { aspect = aspect; criterion = criterion }) e ∙ h criterion

-- a criterion is about neither end
abbrev is_behind : Aspect → Bool
is_behind Source = false
is_behind Target = false
is_behind other = true

-- the first ones of all criteria
abbrev with_source : Criteria → List Given
with_source criteria = with_all [] (given_as Source criteria.source)

abbrev with_target : Criteria → List Given
with_target criteria = with_all (with_source criteria) (given_as Target criteria.target)

-- the criteria behind sources and targets are about neither
behind_ends : (f : Given → Option Criterion) (criteria : Criteria) → ((aspect : Aspect) (criterion : Criterion) → is_behind aspect ≡ true → f (record { aspect = aspect; criterion = criterion }) ≡ None) → first_of f (in_word_order criteria) ≡ first_of f (with_target criteria)
unfolding in_word_order
behind_ends f criteria h =
    let with_class = with_all (with_target criteria) (given_as Class criteria.class) in
    let with_permissions = with_all with_class (given_as Permissions criteria.perms) in
    let with_numbers = with_all with_permissions (given_as Numbers criteria.xperms) in
    let with_default = with_all with_numbers (given_as Default criteria.default) in
    others_given f with_default Booleans criteria.bools (λ criterion. h Booleans criterion refl)
    ∙ others_given f with_numbers Default criteria.default (λ criterion. h Default criterion refl)
    ∙ others_given f with_permissions Numbers criteria.xperms (λ criterion. h Numbers criterion refl)
    ∙ others_given f with_class Permissions criteria.perms (λ criterion. h Permissions criterion refl)
    ∙ others_given f (with_target criteria) Class criteria.class (λ criterion. h Class criterion refl)

no_source : (aspect : Aspect) (criterion : Criterion) → is_behind aspect ≡ true → source_given (record { aspect = aspect; criterion = criterion }) ≡ None
no_source Source criterion e = absurd cc
no_source Target criterion e = refl
no_source Class criterion e = refl
no_source Permissions criterion e = refl
no_source Numbers criterion e = refl
no_source Default criterion e = refl
no_source Booleans criterion e = refl

no_target : (aspect : Aspect) (criterion : Criterion) → is_behind aspect ≡ true → target_given (record { aspect = aspect; criterion = criterion }) ≡ None
no_target Source criterion e = refl
no_target Target criterion e = absurd cc
no_target Class criterion e = refl
no_target Permissions criterion e = refl
no_target Numbers criterion e = refl
no_target Default criterion e = refl
no_target Booleans criterion e = refl

pub source_in_order : (criteria : Criteria) → first_of source_given (in_word_order criteria) ≡ criteria.source
source_in_order criteria =
    behind_ends source_given criteria no_source
    ∙ others_given source_given (with_source criteria) Target criteria.target (λ criterion. refl)
    ∙ these_given source_given [] Source criteria.source refl (λ criterion. refl)

pub target_in_order : (criteria : Criteria) → first_of target_given (in_word_order criteria) ≡ criteria.target
target_in_order criteria =
    behind_ends target_given criteria no_target
    ∙ these_given target_given (with_source criteria) Target criteria.target (others_given target_given [] Source criteria.source (λ criterion. refl)) (λ criterion. refl)
