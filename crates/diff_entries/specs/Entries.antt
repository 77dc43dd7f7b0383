-- Entries of a component of a policy: what is compared with another policy.
use Rattle.std.specs.Prelude.{ℕ, Bool, List, [], get_or}
use Rattle.std.specs.declared.cmp.Ordering.{Ordering}
use Rattle.std.specs.Ordering.{nat_cmp}
use Rattle.std.specs.Cmp.Lexicographic.{slice_cmp}
use Rattle.keyed_lists.specs.Differences.{Both, differences}
use Rattle.diff_entries.specs.declared.parts.Part.{Part}
use Rattle.diff_entries.specs.Parts.{same_parts}

-- An entry: its key, which is a list of names or other bytes; its parts; its statement, which is written where one policy has it
-- alone; and the beginning of the statement, which tells the key where the parts differ.
pub record Entry : Type 0 where
  pub key : List (List ℕ)
  pub parts : List Part
  pub statement : List ℕ
  pub head : List ℕ

-- names are compared by their bytes
abbrev pub name_cmp : List ℕ → List ℕ → Ordering
name_cmp = slice_cmp nat_cmp

-- and keys by their elements
abbrev pub key_cmp : List (List ℕ) → List (List ℕ) → Ordering
key_cmp = slice_cmp name_cmp

abbrev pub same_entry : Entry → Entry → Bool
same_entry a b = same_parts a.parts b.parts

-- the differences from the entries of one policy to those of another: of several of one key the first counts
abbrev pub entry_differences : List Entry → List Entry → List (Both Entry)
entry_differences first second = differences key_cmp (λ e. e.key) same_entry first second

-- the entry of a number, from 0 on
abbrev pub entry_at : List Entry → ℕ → Entry
entry_at entries number = get_or entries number (record { key = []; parts = []; statement = []; head = [] })
