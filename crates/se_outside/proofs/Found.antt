-- The last file of a name, one file at a time.
use Rattle.std.proofs.Common.{◌≡◌, ◌∙◌, ℕ, zero, suc, ◌+◌, ◌<◌, List, [], ◌∷◌, ◌++◌, length, Option, Bool, None, Some, true, false, refl, sym, arith, if◌then◌else◌, slice_get, get_or, take, string_bytes, bytes_eq, if◌then◌else◌}
use Rattle.std.proofs.lemmas.Slice.Eq.{bytes_eq-Decides}
use Rattle.std.proofs.lemmas.Option.{slice_get_within}
use Rattle.std.proofs.lemmas.List.{take_more, length-take-le}
use Rattle.se_outside.specs.MemSlot.{or_else, held, IsFound}
use Rattle.se_outside.specs.MemFiles.{Adds}
use Rattle.se_outside.specs.declared.mem_slot.MemFile.{MemFile}

or_else-none : (x : Option (List ℕ)) → or_else x None ≡ x
or_else-none None = refl
or_else-none (Some x) = refl

or_else-assoc : (x y z : Option (List ℕ)) → or_else (or_else x y) z ≡ or_else x (or_else y z)
or_else-assoc None y z = refl
or_else-assoc (Some x) y z = refl

pub held-push : (fs : List MemFile) (f : MemFile) (name : List ℕ) → held (fs ++ f ∷ []) name ≡ or_else (held (f ∷ []) name) (held fs name)
held-push [] f name = sym (or_else-none _)
held-push (g ∷ fs) f name = rw (held-push fs f name) (or_else-assoc (held (f ∷ []) name) (held fs name) (held (g ∷ []) name))

pub slice_get-end : {X : Type 0} (fs : List X) (f : X) → slice_get (fs ++ f ∷ []) (length fs) ≡ Some f
slice_get-end [] f = refl
slice_get-end (g ∷ fs) f = slice_get-end fs f

-- the files at the front keep their places
pub slice_get-kept : {X : Type 0} (fs gs : List X) (p : ℕ) → p < length fs → slice_get (fs ++ gs) p ≡ slice_get fs p
slice_get-kept [] gs p lt = absurd (omega (arith, lt))
slice_get-kept (f ∷ fs) gs zero lt = refl
slice_get-kept (f ∷ fs) gs (suc p) lt = slice_get-kept fs gs p (omega arith)

pub found-here : (fs : List MemFile) (f : MemFile) (name : List ℕ) → bytes_eq (string_bytes f.name) name ≡ true → string_bytes f.name ≡ name → IsFound (fs ++ f ∷ []) name (Some (length fs))
found-here fs f name h e = (f, slice_get-end fs f, e, rw (held-push fs f name, h) refl)

pub found-before : (fs : List MemFile) (f : MemFile) (name : List ℕ) (r : Option ℕ) → bytes_eq (string_bytes f.name) name ≡ false → IsFound fs name r → IsFound (fs ++ f ∷ []) name r
found-before fs f name None h found = rw (held-push fs f name, h) found
found-before fs f name (Some p) h (g, at, e, is) = (g, slice_get-kept fs _ p (slice_get_within fs p g at) ∙ at, e, rw (held-push fs f name, h) is)

pub step-here : (fs : List MemFile) (i : ℕ) (f : MemFile) (name : List ℕ) (r : Option ℕ) → i < length fs → f ≡ get_or fs i f → bytes_eq (string_bytes f.name) name ≡ true → r ≡ Some i → IsFound (take (i + 1) fs) name r
step-here fs i f name r lt is same at =
    let e : string_bytes f.name ≡ name = (bytes_eq-Decides (string_bytes f.name) name).0 same in
    let here : IsFound (take i fs ++ f ∷ []) name (Some (length (take i fs))) = found-here (take i fs) f name same e in
    let le : length (take i fs) ≡ i = length-take-le i fs (omega arith) in
    rw (at, take_more fs i f lt, ← is) (rw le at here)

pub step-before : (fs : List MemFile) (i : ℕ) (f : MemFile) (name : List ℕ) (r r0 : Option ℕ) → i < length fs → f ≡ get_or fs i f → bytes_eq (string_bytes f.name) name ≡ false → r ≡ r0 → IsFound (take i fs) name r0 → IsFound (take (i + 1) fs) name r
step-before fs i f name r r0 lt is other at found =
    rw (at, take_more fs i f lt, ← is) (found-before (take i fs) f name r0 other found)

choose : (b : Bool) (x : List ℕ) (y : Option (List ℕ)) → or_else (if b then Some x else None) y ≡ (if b then Some x else y)
choose true x y = refl
choose false x y = refl

pub held-added : (old new : List MemFile) (f : MemFile) (name bytes : List ℕ) → new ≡ old ++ f ∷ [] → string_bytes f.name ≡ name → f.bytes.items ≡ bytes → Adds (held old) (held new) name bytes
held-added old new f name bytes e n b other = rw (e, held-push old f other, ← n, ← b) (choose (bytes_eq (string_bytes f.name) other) f.bytes.items (held old other))
