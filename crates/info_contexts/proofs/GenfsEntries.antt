-- The paths of file systems as one list.
use Rattle.std.proofs.Common.{◌≡◌, ℕ, ◌+◌, Bool, true, false, List, [], ◌∷◌, ◌++◌, Option, Some, map, take, slice_get, refl, append-nil}
use Rattle.std.specs.List.{flat_map, filter}
use Rattle.std.proofs.lemmas.List.{take_more}
use Rattle.std.proofs.lemmas.List.Elements.{filter-append}
use Rattle.std.proofs.lemmas.Grind.{flat_map-append}
use Rattle.std.proofs.lemmas.Option.{get_or_from_slice_get, slice_get_within}
use Rattle.pol_cursor.specs.References.{Placed}
use Rattle.pol_genfs.specs.declared.genfs_rec.GenfsPathRec.{GenfsPathRec}
use Rattle.pol_genfs.specs.declared.genfs_rec.GenfsRec.{GenfsRec}
use Rattle.info_contexts.specs.GenfsLines.{Entry, entries_of, entries_in}
use Rattle.info_contexts.specs.NamedEntries.{is_asked, of_name}

-- one list more
pieces_more : {X A : Type 0} (f : X → List A) (xs : List X) (i : ℕ) (x : X) → slice_get xs i ≡ Some x → flat_map f (take (i + 1) xs) ≡ flat_map f (take i xs) ++ f x
pieces_more f xs i x e =
    rw (take_more xs i x (slice_get_within xs i x e), get_or_from_slice_get xs i x x e, flat_map-append f (take i xs) (x ∷ [])) (rw append-nil refl)

-- one file system more, if it is asked for
pub asked_more : (name : Option (List ℕ)) (systems : List (Placed GenfsRec)) (i : ℕ) (system : Placed GenfsRec) → slice_get systems i ≡ Some system
    → of_name (λ entry. entry.fstype) name (entries_in (take (i + 1) systems)) ≡ of_name (λ entry. entry.fstype) name (entries_in (take i systems)) ++ of_name (λ entry. entry.fstype) name (entries_of system.value)
asked_more name systems i system e =
    rw (pieces_more (λ (s : Placed GenfsRec). entries_of s.value) systems i system e)
    (filter-append (λ (entry : Entry). is_asked name entry.fstype) (entries_in (take i systems)) (entries_of system.value))

-- All paths of a file system have its name, so they are asked for together.
all_kept : (asks : List ℕ → Bool) (fstype : List ℕ) (paths : List GenfsPathRec) → asks fstype ≡ true
    → filter (λ (entry : Entry). asks entry.fstype) (map (λ path. record { fstype = fstype; path = path }) paths) ≡ map (λ path. record { fstype = fstype; path = path }) paths
all_kept asks fstype [] e = refl
all_kept asks fstype (path ∷ paths) e = rw (e, all_kept asks fstype paths e) refl

none_kept : (asks : List ℕ → Bool) (fstype : List ℕ) (paths : List GenfsPathRec) → asks fstype ≡ false
    → filter (λ (entry : Entry). asks entry.fstype) (map (λ path. record { fstype = fstype; path = path }) paths) ≡ []
none_kept asks fstype [] e = refl
none_kept asks fstype (path ∷ paths) e = rw (e, none_kept asks fstype paths e) refl

pub all_asked : (name : Option (List ℕ)) (system : GenfsRec) → is_asked name system.fstype ≡ true → of_name (λ entry. entry.fstype) name (entries_of system) ≡ entries_of system
all_asked name system e = all_kept (is_asked name) system.fstype system.paths e

pub none_asked : (name : Option (List ℕ)) (system : GenfsRec) → is_asked name system.fstype ≡ false → of_name (λ entry. entry.fstype) name (entries_of system) ≡ []
none_asked name system e = none_kept (is_asked name) system.fstype system.paths e
