use Rattle.std.proofs.Common.{◌≡◌, ℕ, ◌<◌, ◌+◌, Bool, false, cond, List, [], Some, length, sym, ap, ◌∙◌, subst, get_or, arith}
use Rattle.std.specs.Prelude.{map, slice_get, slice_set, option_map}
use Rattle.std.proofs.lemmas.List.{length-map, length-set}
use Rattle.std.proofs.lemmas.Option.{slice_get-map, slice_get-get_or, slice_get_within}
use Rattle.pol_symtab.specs.declared.name_order.Entry.{Entry}
use Rattle.pol_symtab.specs.Inner.TableIndex.{seen}
use Rattle.pol_symtab.proofs.Ranks.{primary_next, number_within, rank_next, RankFirst}
use Rattle.pol_symtab.proofs.name_order.rank_names.Goals as goal
use Rattle.pol_symtab.proofs.name_order.rank_names.Goals.{then-entry, else-entry}

abbrev no_entry : Entry
no_entry = record { prefix = 0; name = record { ref_ptr = (0, 0); now = [] }; number = 0; primary = false }

entry_at : (entries : List Entry) (k : ℕ) → k < length entries → slice_get (map seen entries) k ≡ Some (seen (get_or entries k no_entry))
entry_at entries k lt = slice_get-map seen entries k ∙ ap (option_map seen) (slice_get-get_or entries k no_entry lt)

pub index_mut-requires : goal.index_mut-requires
index_mut-requires c =
    let at = entry_at c.args.entries.now c.loop-entry.entry-index c.loop-entry-test.true in
    let lt : (get_or c.args.entries.now c.loop-entry.entry-index no_entry).number < length c.loop-entry.ranks.items = number_within (map seen c.args.entries.now) c.requires.rise c.requires.numbered c.loop-entry.entry-index (seen (get_or c.args.entries.now c.loop-entry.entry-index no_entry)) at c.loop-entry.ranks.items c.loop-entry.invariant.0 in
    omega (arith, lt, c.loop-entry.ranks.ok.0)

pub loop-entry-preserved : goal.loop-entry-preserved
loop-entry-preserved c =
    let k = c.loop-entry.entry-index in
    let names = map seen c.args.entries.now in
    let a = seen (get_or c.args.entries.now k no_entry) in
    let at = entry_at c.args.entries.now k c.loop-entry-test.true in
    let ranks = subst (λ (n : ℕ). RankFirst (k + 1) names (slice_set c.loop-entry.ranks.items a.number n)) (sym c.loop-entry.invariant.1)
    (rank_next names c.requires.rise c.requires.numbered k a at c.loop-entry.ranks.items c.loop-entry.invariant.0 c.loop-entry.invariant.2) in
    let next = primary_next names k a at in
    let long = length-set c.loop-entry.ranks.items a.number c.loop-entry.below ∙ c.loop-entry.invariant.0 in
    elim c.if-entry.branch [
      | then-entry w ↦
          let one : ◌≡◌ {A = ℕ} (cond a.primary 1 0) 1 = ap (λ (b : Bool). cond b 1 0) w.if-entry.true in
          (long, omega (arith, w.below-is, c.loop-entry.invariant.1, next, one), ranks)
      | else-entry w ↦
          let none : ◌≡◌ {A = ℕ} (cond a.primary 1 0) 0 = ap (λ (b : Bool). cond b 1 0) w.if-entry.false in
          (long, omega (arith, w.below-is, c.loop-entry.invariant.1, next, none), ranks)
    ]

pub returns : goal.returns
returns c = λ i a at. c.loop-entry.invariant.2 i a (omega (arith, slice_get_within (map seen c.args.entries.now) i a at, length-map c.args.entries.now seen, c.loop-entry-test.false)) at
