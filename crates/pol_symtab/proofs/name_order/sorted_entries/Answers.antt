use Rattle.std.proofs.Common.{◌≡◌, ℕ, ◌<◌, ◌≤◌, ◌+◌, false, List, Some, length, get_or, [], sym, ap, ◌∙◌, subst, arith}
use Rattle.std.specs.Prelude.{map, option_map, slice_get}
use Rattle.std.specs.declared.cmp.Ordering.{Ordering}
use Rattle.std.specs.Ordering.{is_lt, nat_cmp, bool_cmp, ordering_then}
use Rattle.std.specs.Cmp.Lexicographic.{slice_cmp}
use Rattle.std.specs.List.{All}
use Rattle.std.specs.List.Sorted.{IsPermutation}
use Rattle.std.proofs.lemmas.List.{length-map}
use Rattle.std.proofs.lemmas.List.Sorted.{All-permutation, IsPermutation-map}
use Rattle.std.proofs.lemmas.Option.{slice_get-map, slice_get-get_or, slice_get_within, same_Some}
use Rattle.pol_symtab.specs.Inner.Namings.{its_name, is_its_primary, naming}
use Rattle.pol_symtab.specs.declared.name_order.Entry.{Entry}
use Rattle.pol_symtab.specs.Inner.NamePrefixes.{HasPrefix}
use Rattle.pol_symtab.specs.SymbolTables.{is_below}
use Rattle.pol_symtab.specs.Inner.TableIndex.{Named, seen}
use Rattle.pol_symtab.proofs.Prefixes.{name_not_below}
use Rattle.pol_symtab.proofs.SortedNames.{DoNotFall, sorted_names}
use Rattle.pol_symtab.proofs.name_order.sorted_entries.Goals as goal

-- how two entries compare: by their prefixes first, and then by their names
abbrev compare_entries : Entry → Entry → Ordering
compare_entries a b = ordering_then (nat_cmp a.prefix b.prefix) (ordering_then (slice_cmp nat_cmp a.name.now b.name.now) (ordering_then (nat_cmp a.number b.number) (bool_cmp a.primary b.primary)))

entry_is : (entries : List Entry) (i : ℕ) (a : Named) (d : Entry) → slice_get (map seen entries) i ≡ Some a → seen (get_or entries i d) ≡ a
entry_is entries i a d at =
    let lt = slice_get_within (map seen entries) i a at in
    same_Some (seen (get_or entries i d)) a (sym (slice_get-map seen entries i ∙ ap (option_map seen) (slice_get-get_or entries i d (omega (arith, lt, length-map entries seen)))) ∙ at)

steady : (entries : List Entry) → All HasPrefix entries → ((k : ℕ) (d : Entry) → 0 ≤ k → k + 1 < length entries → is_lt (compare_entries (get_or entries (k + 1) d) (get_or entries k d)) ≡ false) → DoNotFall (map seen entries)
steady entries prefixes sorted i a b at at' =
    let lt = slice_get_within (map seen entries) (i + 1) b at' in
    let d : Entry = record { prefix = 0; name = record { ref_ptr = (0, 0); now = [] }; number = 0; primary = false } in
    let next : i + 1 < length entries = omega (arith, lt, length-map entries seen) in
    let h = name_not_below (get_or entries (i + 1) d) (get_or entries i d) _ (prefixes (i + 1) d next) (prefixes i d (omega (arith, next))) (sorted i d (omega arith) next) in
    subst (λ (n : Named). is_below b.name n.name ≡ false) (entry_is entries i a d at) (subst (λ (n : Named). is_below n.name (get_or entries i d).name.now ≡ false) (entry_is entries (i + 1) b d at') h)

pub returns-clause-few : goal.returns-clause-few
returns-clause-few c = omega (arith, c.in_ok-sort.ensures.len, c.sort.new.self.ok.0, c.in_ok-entries.entries.ok.0, c.in_ok-entries.ensures.few)

pub returns-clause-sorted : goal.returns-clause-sorted
returns-clause-sorted c = sorted_names its_name is_its_primary (map naming c.args.names.now) c.requires.distinct (map seen c.sort.new.self.items)
    (subst (λ (names : List Named). IsPermutation names (map seen c.sort.new.self.items)) c.in_ok-entries.ensures.same (IsPermutation-map seen c.in_ok-entries.entries.items c.sort.new.self.items c.in_ok-sort.ensures.permutation))
    (steady c.sort.new.self.items (All-permutation HasPrefix c.in_ok-entries.entries.items c.sort.new.self.items c.in_ok-sort.ensures.permutation c.in_ok-entries.ensures.prefixes) c.in_ok-sort.ensures.sorted)
