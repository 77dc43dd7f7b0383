use Rattle.std.proofs.Common.{◌≡◌, ℕ, ◌+◌, ◌-◌, ◌<◌, ◌≤◌, List, length, take, drop, sym, ap, ◌∙◌, arith}
use Rattle.std.specs.Prelude.{slice_index}
use Rattle.std.proofs.lemmas.List.{get_or_default}
use Rattle.value_groups.specs.Inner.Grouping.{group_of}
use Rattle.value_groups.proofs.Stretches.{group_at, group_past}
use Rattle.value_groups.proofs.groups.Groups.places.Goals as goal

pub returns-then-place-len : goal.returns-then-place-len
returns-then-place-len c =
    let past : length c.self.inside.starts.items ≤ c.args.value + 1 = omega (arith, c.if-place-len.true, c.len.ensures, c.self.inside.starts.ok.0) in
    sym (group_past c.self.inside.starts.items c.self.inside.places.items c.args.value past) ∙ ap (λ (groups : List (List ℕ)). group_of groups c.args.value) c.self.view_is

pub offset_bounds-deref-start : goal.offset_bounds-deref-start
offset_bounds-deref-start c =
    let starts = c.self.inside.starts.items in
    let lt : c.args.value + 1 < length starts = omega (arith, c.if-place-len.false, c.len.ensures, c.self.inside.starts.ok.0) in
    let first : c.index-start.result.now ≡ slice_index starts c.args.value = c.index-start.ensures ∙ get_or_default starts c.args.value c.index-start.result.now 0 (omega (arith, lt)) in
    let size = ap (length {A = ℕ}) c.deref.ensures.value in
    omega (arith, first, size, c.self.invariant.within c.args.value (omega (arith, lt)))

pub slice_bounds-result-count : goal.slice_bounds-result-count
slice_bounds-result-count c =
    let starts = c.self.inside.starts.items in
    let lt : c.args.value + 1 < length starts = omega (arith, c.if-place-len.false, c.len.ensures, c.self.inside.starts.ok.0) in
    let first : c.index-start.result.now ≡ slice_index starts c.args.value = c.index-start.ensures ∙ get_or_default starts c.args.value c.index-start.result.now 0 (omega (arith, lt)) in
    let second : c.index-end.result.now ≡ slice_index starts (c.args.value + 1) = c.index-end.ensures ∙ get_or_default starts (c.args.value + 1) c.index-end.result.now 0 lt in
    omega (arith, first, second, c.self.invariant.rise c.args.value lt)

pub returns : goal.returns
returns c =
    let starts = c.self.inside.starts.items in
    let places = c.self.inside.places.items in
    let lt : c.args.value + 1 < length starts = omega (arith, c.if-place-len.false, c.len.ensures, c.self.inside.starts.ok.0) in
    let first : c.index-start.result.now ≡ slice_index starts c.args.value = c.index-start.ensures ∙ get_or_default starts c.args.value c.index-start.result.now 0 (omega (arith, lt)) in
    let second : c.index-end.result.now ≡ slice_index starts (c.args.value + 1) = c.index-end.ensures ∙ get_or_default starts (c.args.value + 1) c.index-end.result.now 0 lt in
    ap (λ (n : ℕ). take (n - c.index-start.result.now) (drop c.index-start.result.now c.deref.result.now)) second
    ∙ ap (λ (n : ℕ). take (slice_index starts (c.args.value + 1) - n) (drop n c.deref.result.now)) first
    ∙ ap (λ (xs : List ℕ). take (slice_index starts (c.args.value + 1) - slice_index starts c.args.value) (drop (slice_index starts c.args.value) xs)) c.deref.ensures.value
    ∙ sym (group_at starts places c.args.value lt)
    ∙ ap (λ (groups : List (List ℕ)). group_of groups c.args.value) c.self.view_is
