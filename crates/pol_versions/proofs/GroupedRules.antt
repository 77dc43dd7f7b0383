-- Groups in place of entries have the rules of the entries.
use Rattle.std.proofs.Common.{◌≡◌, ℕ, ◌+◌, ◌-◌, ◌<◌, ◌≤◌, ◌^◌, Bool, true, false, not, List, [], ◌∷◌, map, get_or, Decides, refl, sym, subst, ap, arith}
use Rattle.std.specs.Prelude.{◌==◌}
use Rattle.std.specs.List.{All, Contains, filter, flat_map}
use Rattle.std.proofs.lemmas.Bool.{eq-eqb, eqb-true}
use Rattle.std.proofs.lemmas.Bool.Decides.{Decides-eqb}
use Rattle.std.proofs.lemmas.List.Elements.{All-contains, All-map, Contains-append_right, Contains-get_or}
use Rattle.pol_bitmap.specs.Nodes.{bits_of}
use Rattle.pol_bitmap.proofs.Elements.{contains_nothing, contains_first, kept, keeps}
use Rattle.set_nodes.specs.SetNodes.{set_of_values}
use Rattle.set_nodes.proofs.RisingValues.{values_bits}
use Rattle.pol_datums.specs.declared.TypeRec.{TypeRec}
use Rattle.pol_trans.specs.declared.NameTransRec.{NameTransRec}
use Rattle.pol_trans.specs.declared.NameDatumRec.{NameDatumRec}
use Rattle.pol_trans.specs.declared.NameGroupRec.{NameGroupRec}
use Rattle.pol_convert.specs.Grouped.{CommonPart, data_of, datum_of, firsts, group_of, grouped, part_of_entry, same_part}
use Rattle.pol_convert.proofs.Parts.{part_decides}
use Rattle.pol_read.specs.StoredRules.{StoredRule, name_rule}
use Rattle.pol_versions.specs.KeptRecords.{HasSame}
use Rattle.pol_versions.proofs.Members.{contains_flat, contains_map, flat_contains, map_contains, of_first}
use Rattle.pol_versions.proofs.RulesOfTrees.{datum_rules, declared_by, entry_rule, group_rules, source_rule}

-- each key is among the first ones
has_first : {K : Type 0} (same : K → K → Bool) → ((a b : K) → Decides (same a b) (a ≡ b)) → (ks : List K) (k : K) → Contains ks k → Contains (firsts same ks) k
has_first same decides [] k h = absurd (contains_nothing k h)
has_first {K} same decides (x ∷ xs) k h =
    of_first (λ (k : K). Contains (firsts same (x ∷ xs)) k) x xs k (contains_first x (filter (λ other. not (same x other)) (firsts same xs)))
    (λ rest. other (same x k) refl (has_first same decides xs k rest)) h
  where
    other : (b : Bool) → same x k ≡ b → Contains (firsts same xs) k → Contains (firsts same (x ∷ xs)) k
    other true is among = subst (Contains (firsts same (x ∷ xs))) ((decides x k).0 is) (contains_first x (filter (λ other. not (same x other)) (firsts same xs)))
    other false is among =
        Contains-append_right (x ∷ []) (filter (λ other. not (same x other)) (firsts same xs)) k
        (keeps (λ (other : K). not (same x other)) (firsts same xs) k among (ap not is))

-- the rule of a source under a part and a default
abbrev name_of : CommonPart → ℕ → ℕ → StoredRule
name_of part default source = name_rule part.name source part.target part.class default

same_rule : (part : CommonPart) (default source : ℕ) (entry : NameTransRec) → part ≡ part_of_entry entry → default ≡ entry.default → source ≡ entry.source → entry_rule entry ≡ name_of part default source
same_rule part default source entry p d s = rw (p, d, s) refl

module _ (types : List TypeRec) (entries : List NameTransRec) (declared : All (λ entry. declared_by types entry.source ≡ true) entries) (from_one : All (λ entry. 1 ≤ entry.source) entries) (fit : All (λ entry. entry.source < 2 ^ 32) entries) where
  -- the entries of a name, a target and a class, and those of a default among them
  abbrev alike : CommonPart → List NameTransRec
  alike part = filter (λ entry. same_part part (part_of_entry entry)) entries

  abbrev of_default : CommonPart → ℕ → List NameTransRec
  of_default part default = filter (λ entry. default == entry.default) (alike part)

  abbrev bits : CommonPart → ℕ → List ℕ
  bits part default = map (λ entry. entry.source - 1) (of_default part default)

  -- what such an entry is
  record IsAlike (part : CommonPart) (default : ℕ) (entry : NameTransRec) : Type 0 where
    there : Contains entries entry
    is_part : part ≡ part_of_entry entry
    is_default : default ≡ entry.default

  is_alike : (part : CommonPart) (default : ℕ) (entry : NameTransRec) → Contains (of_default part default) entry → IsAlike part default entry
  is_alike part default entry h =
      let k = kept (λ (entry : NameTransRec). default == entry.default) (alike part) entry h in
      let l = kept (λ (entry : NameTransRec). same_part part (part_of_entry entry)) entries entry k.0 in
      record { there = l.0; is_part = (part_decides part (part_of_entry entry)).0 l.1; is_default = eqb-true default entry.default k.1 }

  bits_fit : (part : CommonPart) (default : ℕ) → All (λ bit. bit < 2 ^ 32) (bits part default)
  bits_fit part default =
      All-map (λ (bit : ℕ). bit < 2 ^ 32) (λ (entry : NameTransRec). entry.source - 1) (of_default part default) λ i d lt.
      let entry = is_alike part default (get_or (of_default part default) i d) (Contains-get_or (of_default part default) i d lt) in
      let small = All-contains (λ (entry : NameTransRec). entry.source < 2 ^ 32) entries (get_or (of_default part default) i d) fit entry.there in
      omega (arith, small)

  -- ---- a rule of a group is that of an entry

  source_given : (part : CommonPart) (default source : ℕ) → Contains (filter (declared_by types) (map (λ bit. bit + 1) (bits_of (set_of_values (bits part default))))) source → Contains (map entry_rule entries) (name_of part default source)
  source_given part default source h =
      let k = kept (declared_by types) (map (λ (bit : ℕ). bit + 1) (bits_of (set_of_values (bits part default)))) source h in
      let bit = map_contains (λ (bit : ℕ). bit + 1) (bits_of (set_of_values (bits part default))) source k.0 in
      let entry = map_contains (λ (entry : NameTransRec). entry.source - 1) (of_default part default) bit.of ((values_bits (bits part default) bit.of (bits_fit part default)).0 bit.there) in
      let alike = is_alike part default entry.of entry.there in
      let one = All-contains (λ (entry : NameTransRec). 1 ≤ entry.source) entries entry.of from_one alike.there in
      let same : source ≡ entry.of.source = omega (arith, bit.is, entry.is, one) in
      subst (Contains (map entry_rule entries)) (same_rule part default source entry.of alike.is_part alike.is_default same) (contains_map entry_rule entries entry.of alike.there)

  datum_given : (part : CommonPart) (rule : StoredRule) → Contains (group_rules types (group_of part (alike part))) rule → Contains (map entry_rule entries) rule
  unfolding data_of
  datum_given part rule h =
      let group = group_of part (alike part) in
      let datum = flat_contains (datum_rules types group) (data_of (alike part)) rule h in
      let default = map_contains (λ (default : ℕ). datum_of default (of_default part default)) (firsts ◌==◌ (map (λ (entry : NameTransRec). entry.default) (alike part))) datum.of datum.there in
      let within : Contains (datum_rules types group (datum_of default.of (of_default part default.of))) rule = subst (λ (d : NameDatumRec). Contains (datum_rules types group d) rule) (sym default.is) datum.within in
      let source = map_contains (source_rule group default.of) (filter (declared_by types) (map (λ (bit : ℕ). bit + 1) (bits_of (set_of_values (bits part default.of))))) rule within in
      subst (Contains (map entry_rule entries)) source.is (source_given part default.of source.of source.there)

  group_given : (rule : StoredRule) → Contains (flat_map (group_rules types) (grouped entries)) rule → Contains (map entry_rule entries) rule
  unfolding grouped
  group_given rule h =
      let group = flat_contains (group_rules types) (grouped entries) rule h in
      let part = map_contains (λ (part : CommonPart). group_of part (alike part)) (firsts same_part (map part_of_entry entries)) group.of group.there in
      datum_given part.of rule (subst (λ (g : NameGroupRec). Contains (group_rules types g) rule) (sym part.is) group.within)

  -- ---- the rule of an entry is that of a group

  module _ (entry : NameTransRec) (there : Contains entries entry) where
    abbrev its_part : CommonPart
    its_part = part_of_entry entry

    abbrev its_group : NameGroupRec
    its_group = group_of its_part (alike its_part)

    abbrev its_datum : NameDatumRec
    its_datum = datum_of entry.default (of_default its_part entry.default)

    in_alike : Contains (alike its_part) entry
    in_alike = keeps (λ (other : NameTransRec). same_part its_part (part_of_entry other)) entries entry there ((part_decides its_part its_part).1 refl)

    in_set : Contains (bits_of (set_of_values (bits its_part entry.default))) (entry.source - 1)
    in_set =
        (values_bits (bits its_part entry.default) (entry.source - 1) (bits_fit its_part entry.default)).1
        (contains_map (λ (other : NameTransRec). other.source - 1) (of_default its_part entry.default) entry
        (keeps (λ (other : NameTransRec). entry.default == other.default) (alike its_part) entry in_alike (eq-eqb entry.default entry.default refl)))

    in_sources : Contains (filter (declared_by types) (map (λ bit. bit + 1) (bits_of (set_of_values (bits its_part entry.default))))) entry.source
    in_sources =
        let sources = map (λ (bit : ℕ). bit + 1) (bits_of (set_of_values (bits its_part entry.default))) in
        let one = All-contains (λ (entry : NameTransRec). 1 ≤ entry.source) entries entry from_one there in
        let next : entry.source - 1 + 1 ≡ entry.source = omega (arith, one) in
        keeps (declared_by types) sources entry.source
        (subst (Contains sources) next (contains_map (λ (bit : ℕ). bit + 1) (bits_of (set_of_values (bits its_part entry.default))) (entry.source - 1) in_set))
        (All-contains (λ (entry : NameTransRec). declared_by types entry.source ≡ true) entries entry declared there)

    in_data : Contains (data_of (alike its_part)) its_datum
    unfolding data_of
    in_data =
        contains_map (λ (default : ℕ). datum_of default (of_default its_part default)) (firsts ◌==◌ (map (λ (other : NameTransRec). other.default) (alike its_part))) entry.default
        (has_first ◌==◌ Decides-eqb (map (λ (other : NameTransRec). other.default) (alike its_part)) entry.default (contains_map (λ (other : NameTransRec). other.default) (alike its_part) entry in_alike))

    in_grouped : Contains (grouped entries) its_group
    unfolding grouped
    in_grouped =
        contains_map (λ (part : CommonPart). group_of part (alike part)) (firsts same_part (map part_of_entry entries)) its_part
        (has_first same_part part_decides (map part_of_entry entries) its_part (contains_map part_of_entry entries entry there))

    its_rule : Contains (flat_map (group_rules types) (grouped entries)) (entry_rule entry)
    its_rule =
        contains_flat (group_rules types) (grouped entries) its_group (entry_rule entry) in_grouped
        (contains_flat (datum_rules types its_group) (data_of (alike its_part)) its_datum (entry_rule entry) in_data
        (contains_map (source_rule its_group entry.default) (filter (declared_by types) (map (λ (bit : ℕ). bit + 1) (bits_of (set_of_values (bits its_part entry.default))))) entry.source in_sources))

  entry_given : (rule : StoredRule) → Contains (map entry_rule entries) rule → Contains (flat_map (group_rules types) (grouped entries)) rule
  entry_given rule h =
      let entry = map_contains entry_rule entries rule h in
      subst (Contains (flat_map (group_rules types) (grouped entries))) entry.is (its_rule entry.of entry.there)

  pub grouped_same : HasSame (map entry_rule entries) (flat_map (group_rules types) (grouped entries))
  grouped_same = record { each = λ rule. (entry_given rule, group_given rule) }
