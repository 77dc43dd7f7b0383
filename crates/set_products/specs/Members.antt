-- Single rules, and the members of entries.
use Rattle.std.specs.Prelude.{◌≡◌, ℕ, ◌<◌, List, [], map, length, slice_get, slice_index_or, Some, All}
use Rattle.std.specs.List.{flat_map, enumerate_from}
use Rattle.pol_bitmap.specs.declared.Node.{Node}
use Rattle.pol_bitmap.specs.Nodes.{bits_of}
use Rattle.set_products.specs.declared.entry.Entry.{Entry}
use Rattle.set_products.specs.declared.entry.Single.{Single}

-- a rule with its sources and targets
pub record Product : Type 0 where
  pub rule : ℕ
  pub sources : List ℕ
  pub targets : List ℕ

-- every source with every target
abbrev pub members_of : Product → List Single
members_of p = flat_map (λ s. map (λ t. record { rule = p.rule; source = s; target = t }) p.targets) p.sources

-- the members, one product after the other
unfoldable pub members : List Product → List Single
members ps = flat_map members_of ps

-- ---- entries

-- the set of a number, as a list of its bits
abbrev pub bits_at : List (List Node) → ℕ → List ℕ
bits_at sets n = bits_of (slice_index_or sets n [])

-- an entry with the bits of the two sets that it names
abbrev pub product_of : List (List Node) → Entry → Product
product_of sets e = record { rule = e.rule; sources = bits_at sets e.sources; targets = bits_at sets e.targets }

abbrev pub products_of : List Entry → List (List Node) → List Product
products_of entries sets = map (product_of sets) entries

-- the product of a number
abbrev pub product_at : List Product → ℕ → Product
product_at ps i = slice_index_or ps i (record { rule = 0; sources = []; targets = [] })

-- an entry's numbers are those of sets
abbrev pub HasNumbers : List (List Node) → Entry → Type 0
HasNumbers sets e = (e.sources < length sets) × (e.targets < length sets)

abbrev pub AreNumbers : List Entry → List (List Node) → Type 0
AreNumbers entries sets = All (HasNumbers sets) entries

-- ---- rules

-- All single rules: rule by rule, each source of the expansion of its source, and each target of the expansion of its target.
-- The expansions are those of the rules, from rule 0 on.
abbrev pub single_rules : List (List ℕ × List ℕ) → List Single
single_rules expansions = flat_map (λ r. flat_map (λ s. map (λ t. record { rule = r.0; source = s; target = t }) r.1.1) r.1.0) (enumerate_from 0 expansions)

-- The entries are one a rule, each with the expansions of its rule.
pub record AreOfRules (entries : List Entry) (sets : List (List Node)) (expansions : List (List ℕ × List ℕ)) : Type 0 where
  pub count : length entries ≡ length expansions
  pub rules : (n : ℕ) (e : Entry) → slice_get entries n ≡ Some e → e.rule ≡ n
  pub ends : (n : ℕ) (e : Entry) → slice_get entries n ≡ Some e → slice_get expansions n ≡ Some (bits_at sets e.sources, bits_at sets e.targets)
