-- Entries in place of groups have the rules of the groups.
use Rattle.std.proofs.Common.{◌≡◌, ℕ, ◌+◌, ◌<◌, ◌^◌, true, List, [], ◌∷◌, ◌++◌, map, refl, sym, subst, ◌∙◌, ap}
use Rattle.std.specs.Prelude.{◌==◌}
use Rattle.std.specs.List.{All, Contains, filter, flat_map}
use Rattle.std.proofs.lemmas.Bool.{eq-eqb, eqb-true}
use Rattle.pol_bitmap.specs.declared.Node.{Node}
use Rattle.pol_bitmap.specs.Nodes.{bits_of}
use Rattle.pol_bitmap.proofs.Elements.{kept, keeps}
use Rattle.set_nodes.proofs.RisingValues.{values_bits}
use Rattle.pol_datums.specs.declared.TypeRec.{TypeRec}
use Rattle.pol_trans.specs.declared.NameTransRec.{NameTransRec}
use Rattle.pol_trans.specs.declared.NameDatumRec.{NameDatumRec}
use Rattle.pol_trans.specs.declared.NameGroupRec.{NameGroupRec}
use Rattle.pol_convert.proofs.Members.{any_from, any_gives}
use Rattle.pol_convert.specs.Ungrouped.{datum_entries, declared_sources, entry_of, group_entries, is_source, ungrouped}
use Rattle.pol_read.specs.StoredRules.{StoredRule}
use Rattle.pol_versions.specs.Conversion.{values_of_types}
use Rattle.pol_versions.specs.KeptRecords.{HasSame}
use Rattle.pol_versions.proofs.Members.{contains_map, map_contains, same_flat, same_map}
use Rattle.pol_versions.proofs.DeclaredTypes.{declared_value}
use Rattle.pol_versions.proofs.RulesOfTrees.{datum_rules, declared_by, entry_rule, group_rules, source_rule}

rules_append : (xs ys : List NameTransRec) → map entry_rule (xs ++ ys) ≡ map entry_rule xs ++ map entry_rule ys
rules_append [] ys = refl
rules_append (x ∷ xs) ys = ap (λ (rs : List StoredRule). entry_rule x ∷ rs) (rules_append xs ys)

rules_flat : {A : Type 0} (f : A → List NameTransRec) (xs : List A) → map entry_rule (flat_map f xs) ≡ flat_map (λ x. map entry_rule (f x)) xs
rules_flat f [] = refl
rules_flat f (x ∷ xs) = rules_append (f x) (flat_map f xs) ∙ ap (λ (rs : List StoredRule). map entry_rule (f x) ++ rs) (rules_flat f xs)

rules_of_sources : (group : NameGroupRec) (default : ℕ) (sources : List ℕ) → map entry_rule (map (entry_of group default) sources) ≡ map (source_rule group default) sources
rules_of_sources group default [] = refl
rules_of_sources group default (s ∷ ss) = ap (λ (rs : List StoredRule). source_rule group default s ∷ rs) (rules_of_sources group default ss)

module _ (types : List TypeRec) (declared : (value : ℕ) → Contains (map (λ type. type.value) types) value → declared_by types value ≡ true) (fit : All (λ value. value < 2 ^ 32) (map (λ type. type.value) types)) where
  abbrev values : List ℕ
  values = map (λ type. type.value) types

  same_sources : (sources : List Node) → HasSame (declared_sources (values_of_types types) sources) (filter (declared_by types) (map (λ bit. bit + 1) (bits_of sources)))
  same_sources sources = record { each = λ value. (there value, back value) }
    where
      there : (value : ℕ) → Contains (declared_sources (values_of_types types) sources) value → Contains (filter (declared_by types) (map (λ bit. bit + 1) (bits_of sources))) value
      there value h =
          let k = kept (is_source sources) (bits_of (values_of_types types)) value h in
          let bit = any_gives (λ (bit : ℕ). bit + 1 == value) (bits_of sources) k.1 in
          let next : bit.0 + 1 ≡ value = eqb-true (bit.0 + 1) value bit.2 in
          let among : Contains (map (λ (bit : ℕ). bit + 1) (bits_of sources)) value = subst (Contains (map (λ (bit : ℕ). bit + 1) (bits_of sources))) next (contains_map (λ (bit : ℕ). bit + 1) (bits_of sources) bit.0 bit.1) in
          keeps (declared_by types) (map (λ (bit : ℕ). bit + 1) (bits_of sources)) value among (declared value ((values_bits values value fit).0 k.0))

      back : (value : ℕ) → Contains (filter (declared_by types) (map (λ bit. bit + 1) (bits_of sources))) value → Contains (declared_sources (values_of_types types) sources) value
      back value h =
          let k = kept (declared_by types) (map (λ (bit : ℕ). bit + 1) (bits_of sources)) value h in
          let bit = map_contains (λ (bit : ℕ). bit + 1) (bits_of sources) value k.0 in
          keeps (is_source sources) (bits_of (values_of_types types)) value ((values_bits values value fit).1 (declared_value types value k.1))
          (any_from (λ (bit : ℕ). bit + 1 == value) (bits_of sources) bit.of bit.there (eq-eqb (bit.of + 1) value bit.is))

  same_datum : (group : NameGroupRec) (datum : NameDatumRec) → HasSame (map entry_rule (datum_entries (values_of_types types) group datum)) (datum_rules types group datum)
  same_datum group datum =
      subst (λ (rs : List StoredRule). HasSame rs (datum_rules types group datum)) (sym (rules_of_sources group datum.default (declared_sources (values_of_types types) datum.sources)))
      (same_map (source_rule group datum.default) _ _ (same_sources datum.sources))

  same_group : (group : NameGroupRec) → HasSame (map entry_rule (group_entries (values_of_types types) group)) (group_rules types group)
  same_group group =
      subst (λ (rs : List StoredRule). HasSame rs (group_rules types group)) (sym (rules_flat (datum_entries (values_of_types types) group) group.datums))
      (same_flat (λ datum. map entry_rule (datum_entries (values_of_types types) group datum)) (datum_rules types group) group.datums (same_datum group))

  pub ungrouped_same : (groups : List NameGroupRec) → HasSame (map entry_rule (ungrouped (values_of_types types) groups)) (flat_map (group_rules types) groups)
  ungrouped_same groups =
      subst (λ (rs : List StoredRule). HasSame rs (flat_map (group_rules types) groups)) (sym (rules_flat (group_entries (values_of_types types)) groups))
      (same_flat (λ group. map entry_rule (group_entries (values_of_types types) group)) (group_rules types) groups same_group)
