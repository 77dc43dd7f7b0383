use Rattle.std.proofs.Common.{◌≡◌, sym, ap, ◌∙◌, subst}
use Rattle.std.specs.Prelude.{map}
use Rattle.pol_symtab.specs.declared.name_order.Entry.{Entry}
use Rattle.pol_symtab.specs.Inner.Namings.{its_name, is_its_primary, its_value, naming}
use Rattle.pol_symtab.specs.Inner.TableIndex.{Named, seen, AreNumbered, AreSorted, IsNameOrder, IsRankIndex, IsValueIndex, RankAll, names_of}
use Rattle.pol_symtab.proofs.Searches.{values_ranked}
use Rattle.pol_symtab.proofs.SortedNames.{sorted_numbered, sorted_order, sorted_ranks, numbers_seen}
use Rattle.pol_symtab.proofs.table_names.TableNames.new.Goals as goal

pub rank_names-requires-clause-numbered : goal.rank_names-requires-clause-numbered
rank_names-requires-clause-numbered c =
    subst (λ entries. AreNumbered (map seen entries)) (sym c.deref-4.ensures.value)
    (sorted_numbered its_name is_its_primary (map naming c.deref-2.result.now) (map seen c.in_ok-entries.entries.items) c.in_ok-entries.ensures.sorted)

pub invariant_of-result : goal.invariant_of-result
invariant_of-result c =
    let all = map naming c.args.names.items in
    let names = map seen c.in_ok-entries.entries.items in
    let sorted : AreSorted its_name is_its_primary all names = subst (λ symbols. AreSorted its_name is_its_primary (map naming symbols) names) c.deref-2.ensures.value c.in_ok-entries.ensures.sorted in
    let values : IsValueIndex is_its_primary its_value all c.in_ok-by_value.by_value.items = subst (λ symbols. IsValueIndex is_its_primary its_value (map naming symbols) c.in_ok-by_value.by_value.items) c.deref.ensures.value c.in_ok-by_value.ensures in
    let numbers : c.in_ok-by_name.by_name.items ≡ map (λ (a : Named). a.number) names = c.in_ok-by_name.ensures ∙ ap (map (λ (entry : Entry). entry.number)) c.deref-3.ensures.value ∙ numbers_seen c.in_ok-entries.entries.items in (
      record {
        values = values;
        names = subst (IsNameOrder (names_of its_name all)) (sym numbers) (sorted_order its_name is_its_primary all names sorted);
        rank = subst (IsRankIndex its_name is_its_primary its_value all) (sym c.in_ok-ranks.ensures)
            (values_ranked its_name is_its_primary its_value all c.deref-6.result.now
            (sorted_ranks its_name is_its_primary all names sorted c.deref-6.result.now
            (subst (RankAll names) (sym c.deref-6.ensures.value) (subst (λ entries. RankAll (map seen entries) c.in_ok-by_number.by_number.items) c.deref-4.ensures.value c.in_ok-by_number.ensures)))
            c.deref-5.result.now
            (subst (IsValueIndex is_its_primary its_value all) (sym c.deref-5.ensures.value) values));
      },
      c.requires.few,
    )
