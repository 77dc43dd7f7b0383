-- How many bytes the entries of groups take.
use Rattle.std.proofs.Common.{◌≡◌, ℕ, suc, ◌+◌, ◌*◌, ◌≤◌, List, [], ◌∷◌, ◌++◌, inl, inr, length, sym, ap, ◌∙◌, arith}
use Rattle.std.specs.Prelude.{map, min}
use Rattle.std.specs.List.{flat_map}
use Rattle.std.proofs.Math.Nat.{mul-add, mul-le-mul_left, mul-le-mul_right}
use Rattle.std.proofs.lemmas.Grind.{flat_map-append}
use Rattle.std.proofs.lemmas.List.{append-nil, length-append, length-map}
use Rattle.std.proofs.lemmas.Bool.{cases_lt}
use Rattle.pol_cursor.proofs.Numbers.{length-bytes_of}
use Rattle.pol_bitmap.specs.declared.node.Node.{Node}
use Rattle.pol_trans.specs.declared.name_trans_rec.NameTransRec.{NameTransRec}
use Rattle.pol_trans.specs.declared.name_datum_rec.NameDatumRec.{NameDatumRec}
use Rattle.pol_trans.specs.declared.name_group_rec.NameGroupRec.{NameGroupRec}
use Rattle.pol_trans.specs.NameTransRecord.{spell_name_trans}
use Rattle.pol_convert.specs.Ungrouped.{entry_of, datum_entries, declared_sources, group_entries, entries_length}

times_sum : (each m n a b : ℕ) → a ≡ each * m → b ≡ each * n → a + b ≡ each * (m + n)
times_sum each m n a b e f = rw (e, f) (sym (mul-add each m n))

times_more : (each n a b : ℕ) → a ≡ each → b ≡ each * n → a + b ≡ each * suc n
times_more each n a b e f = rw (e, f) (omega arith)

-- ---- the entries of one group

entry_length : (group : NameGroupRec) (default source : ℕ) → length (spell_name_trans (entry_of group default source)) ≡ 20 + length group.name
entry_length group default source = grind (
  arith,
  length-append,
  length-bytes_of 4 (length group.name),
  length-bytes_of 4 source,
  length-bytes_of 4 group.target,
  length-bytes_of 4 group.class,
  length-bytes_of 4 default,
)

entries_append : (xs ys : List NameTransRec) → entries_length (xs ++ ys) ≡ entries_length xs + entries_length ys
entries_append xs ys = ap length (flat_map-append spell_name_trans xs ys) ∙ length-append (flat_map spell_name_trans xs) (flat_map spell_name_trans ys)

sources_length : (group : NameGroupRec) (default : ℕ) (sources : List ℕ) → entries_length (map (entry_of group default) sources) ≡ (20 + length group.name) * length sources
sources_length group default [] = omega arith
sources_length group default (s ∷ ss) =
    entries_append (entry_of group default s ∷ []) (map (entry_of group default) ss) ∙ times_more (20 + length group.name) (length ss) _ _ (ap length (append-nil (spell_name_trans (entry_of group default s))) ∙ entry_length group default s) (sources_length group default ss)

pub group_length : (declared : List Node) (group : NameGroupRec) → entries_length (group_entries declared group) ≡ (20 + length group.name) * length (group_entries declared group)
group_length declared group = go group.datums
  where
    go : (datums : List NameDatumRec) → entries_length (flat_map (datum_entries declared group) datums) ≡ (20 + length group.name) * length (flat_map (datum_entries declared group) datums)
    go [] = omega arith
    go (d ∷ ds) =
        entries_append (datum_entries declared group d) (flat_map (datum_entries declared group) ds)
        ∙ times_sum (20 + length group.name) (length (datum_entries declared group d)) (length (flat_map (datum_entries declared group) ds)) _ _
        (sources_length group d.default (declared_sources declared d.sources) ∙ ap (λ (n : ℕ). (20 + length group.name) * n) (sym (length-map (declared_sources declared d.sources) (entry_of group d.default)))) (go ds)
        ∙ ap (λ (n : ℕ). (20 + length group.name) * n) (sym (length-append (datum_entries declared group d) (flat_map (datum_entries declared group) ds)))

-- ---- sums and products that stop at a greatest number

pub product_stops : (start each count most : ℕ) → 1 ≤ each → min (start + min (each * min count most) most) most ≡ min (start + each * count) most
product_stops start each count most some = elim (cases_lt count most) [
  | inl few ↦ let e : min count most ≡ count = omega (arith, few) in rw e (omega arith)
  | inr many ↦
      let e : min count most ≡ most = omega (arith, many) in
      let big : 1 * most ≤ each * most = mul-le-mul_right most some in
      let more : each * most ≤ each * count = mul-le-mul_left each many in
      rw e (omega (arith, big, more))
]
