use Rattle.std.proofs.Common.{◌≡◌, ◌<◌, ◌-◌, ℕ, [], None, length, slice_index_or, subst, sym, ap, ◌∙◌, arith}
use Rattle.std.proofs.lemmas.List.{get_or_read}
use Rattle.pol_expand.specs.Expansion.{Expansions, IsNumberOfBits, expansion_of}
use Rattle.pol_expand.proofs.Remembering.{number_there, numbers_next, number_of_bits, remembered, bound_of}
use Rattle.pol_expand.proofs.expansions.TypeMap.members.Goals as goal

pub returns-in-Some-clause-number : goal.returns-in-Some-clause-number
returns-in-Some-clause-number c =
    let m = c.self.inside in
    let h = c.self.invariant in
    let is = sym (get_or_read m.numbers.items c.place_of-place.result c.index.result.now (omega (arith, h.all, c.place_of-place.ensures.within)) c.index.ensures None) ∙ c.in-Some.is in
    subst (λ (e : Expansions). IsNumberOfBits e.sets e.sets (expansion_of e.expansions c.args.value) c.in-Some.number) c.self.view_is
    (remembered m.inverse.expansions m.numbers.items m.pool m.kept m.inverse.count c.place_of-place.result c.args.value c.in-Some.number h c.place_of-place.ensures.place is)

pub invariant_of-self-2 : goal.invariant_of-self-2
invariant_of-self-2 c =
    let m = c.self.inside in
    let h = c.self.invariant in
    let k : c.args.value - 1 ≡ c.place_of-place.result = omega (arith, c.place_of-place.ensures.place) in
    let none = sym (get_or_read m.numbers.items c.place_of-place.result c.index.result.now (omega (arith, h.all, c.place_of-place.ensures.within)) c.index.ensures None) ∙ c.in-None.is in
    numbers_next m.inverse.expansions m.numbers.items m.pool c.put.new.self m.kept m.inverse.count c.place_of-place.result c.in_ok-number.number c.in_ok-set.set
    h c.place_of-place.ensures.within none c.in_ok-number.ensures.number (c.in_ok-set.ensures.bits ∙ ap (λ (k : ℕ). slice_index_or m.inverse.expansions k []) k)

pub returns-clause-number : goal.returns-clause-number
returns-clause-number c =
    let m = c.self.inside in
    subst (λ (e : Expansions). IsNumberOfBits e.sets c.put.new.self (expansion_of e.expansions c.args.value) c.in_ok-number.number) c.self.view_is
    (number_of_bits m.pool c.put.new.self c.in_ok-set.set (expansion_of m.inverse.expansions c.args.value) c.in_ok-number.number c.in_ok-number.ensures.number c.in_ok-set.ensures.bits)

pub returns-clause-bound : goal.returns-clause-bound
returns-clause-bound c =
    let m = c.self.inside in
    bound_of m.inverse.expansions _ c.put.new.self m.kept m.inverse.count (invariant_of-self-2 c) c.place_of-place.ensures.few

pub returns-in-Some-clause-there : goal.returns-in-Some-clause-there
returns-in-Some-clause-there c =
    let m = c.self.inside in
    let h = c.self.invariant in
    let is = sym (get_or_read m.numbers.items c.place_of-place.result c.index.result.now (omega (arith, h.all, c.place_of-place.ensures.within)) c.index.ensures None) ∙ c.in-Some.is in
    subst (λ (e : Expansions). c.in-Some.number < length e.sets) c.self.view_is (h.there c.place_of-place.result c.in-Some.number is)

pub returns-clause-there : goal.returns-clause-there
returns-clause-there c = number_there c.self.inside.pool c.put.new.self c.in_ok-set.set c.in_ok-number.number c.in_ok-number.ensures.number
