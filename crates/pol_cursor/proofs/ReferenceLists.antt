-- The references of a record, one after the other.
use Rattle.std.proofs.Common.{◌≡◌, ℕ, ◌+◌, ◌<◌, Option, Some, None, Bool, true, false, List, [], ◌∷◌, length, drop, get_or, refl, ap, ◌∙◌}
use Rattle.std.specs.Prelude.{is_some, if◌then◌else◌}
use Rattle.std.proofs.lemmas.List.{drop_more}
use Rattle.pol_fields.specs.declared.fault.Fault.{Fault}
use Rattle.pol_cursor.specs.References.{Named, Reference, dangling_of}
use Rattle.pol_cursor.specs.declared.mention.Mention.{Mention}
use Rattle.pol_cursor.specs.Mentions.{reference_of, references_of}

-- ---- the first reference of more than one

declared : (b : Bool) (x : Option Fault) (f : Fault) → (if b then None else Some f) ≡ None → (if b then x else Some f) ≡ x
declared true x f e = refl
declared false x f e = absurd cc

undeclared : (b : Bool) (x : Option Fault) (f g : Fault) → (if b then None else Some f) ≡ Some g → (if b then x else Some f) ≡ Some g
undeclared true x f g e = absurd cc
undeclared false x f g e = e

pub dangling_then : (named : Named) (r : Reference) (rs : List Reference) → dangling_of named (r ∷ []) ≡ None → dangling_of named (r ∷ rs) ≡ dangling_of named rs
dangling_then named r rs e = declared (is_some (named r.table r.value)) _ _ e

pub dangling_at : (named : Named) (r : Reference) (rs : List Reference) (f : Fault) → dangling_of named (r ∷ []) ≡ Some f → dangling_of named (r ∷ rs) ≡ Some f
dangling_at named r rs f e = undeclared (is_some (named r.table r.value)) _ _ f e

-- ---- the mentions from one on

pub dangling_later : (named : Named) (mentions : List Mention) (i : ℕ) (d : Mention) → i < length mentions → dangling_of named (reference_of (get_or mentions i d) ∷ []) ≡ None
    → dangling_of named (references_of (drop i mentions)) ≡ dangling_of named (references_of (drop (i + 1) mentions))
dangling_later named mentions i d lt e =
    ap (λ (ms : List Mention). dangling_of named (references_of ms)) (drop_more mentions i d lt) ∙ dangling_then named (reference_of (get_or mentions i d)) (references_of (drop (i + 1) mentions)) e

pub dangling_here : (named : Named) (mentions : List Mention) (i : ℕ) (d : Mention) (f : Fault) → i < length mentions → dangling_of named (reference_of (get_or mentions i d) ∷ []) ≡ Some f
    → dangling_of named (references_of (drop i mentions)) ≡ Some f
dangling_here named mentions i d f lt e =
    ap (λ (ms : List Mention). dangling_of named (references_of ms)) (drop_more mentions i d lt) ∙ dangling_at named (reference_of (get_or mentions i d)) (references_of (drop (i + 1) mentions)) f e
