-- The permissions of a list, as a loop reads them: each under those before it.
use Rattle.std.proofs.Common.{◌≡◌, ℕ, ◌+◌, ◌<◌, ◌≤◌, List, [], ◌∷◌, ◌++◌, refl, sym, ap, subst, ◌∙◌, arith}
use Rattle.pol_fields.specs.declared.fault.Fault.{Fault}
use Rattle.pol_cursor.specs.Outcome.{Position, Bad}
use Rattle.pol_cursor.specs.NestedRecords.{nested_in, nested_end, HasNested}
use Rattle.pol_cursor.proofs.Lists.{Gave, Going, Going-start, Going-next, Going-bad, Going-end}
use Rattle.pol_cursor.proofs.NestedLists.{nested_end_next}
use Rattle.pol_commons.specs.declared.permission_rec.PermissionRec.{PermissionRec}
use Rattle.pol_commons.specs.PermissionRecord.{permission_at, permission_in, permission_end, HasPermission}
use Rattle.pol_commons.specs.Permissions.{with_permission, permissions_at, permissions_in, permissions_end, HavePermissions}
use Rattle.pol_commons.proofs.NestedValues.{values_next, run_has_next}

-- i permissions were read, and are those that stand there
pub record Listed (inherited : List PermissionRec) (count : ℕ) (first : Position) (i : ℕ) (now : Position) : Type 0 where
  pub going : Going (λ left listed. permission_at listed inherited) with_permission count [] first i (permissions_in first.bytes first.place i) now (permissions_in first.bytes first.place i)
  pub ends : now.place ≡ permissions_end first.bytes first.place i
  pub have : HavePermissions first.bytes first.place i

module _ (inherited : List PermissionRec) (count : ℕ) (first : Position) where
  pub Listed-start : Listed inherited count first 0 first
  unfolding nested_in nested_end HasNested
  Listed-start = record { going = Going-start (λ left listed. permission_at listed inherited) with_permission count [] first; ends = refl; have = tt }

  pub Listed-next : (i : ℕ) (now next : Position) → i < count → Gave (permission_at (permissions_in first.bytes first.place i) inherited) (permission_in now.bytes now.place) now next
      → HasPermission now.bytes now.place → next.place ≡ permission_end now.bytes now.place → Listed inherited count first i now → Listed inherited count first (i + 1) next
  Listed-next i now next lt e has behind h =
      let here : now ≡ record { bytes = first.bytes; place = permissions_end first.bytes first.place i } = ap (λ (b : List ℕ). record { bytes = b; place = now.place }) h.going.same ∙ ap (λ (p : ℕ). record { bytes = first.bytes; place = p }) h.ends in
      let one = Going-next (λ left listed. permission_at listed inherited) with_permission count [] first i (permissions_in first.bytes first.place i) now (permissions_in first.bytes first.place i) (permission_in now.bytes now.place) next lt e h.going in
      let more : permissions_in first.bytes first.place (i + 1) ≡ permissions_in first.bytes first.place i ++ permission_in now.bytes now.place ∷ [] =
      values_next permission_in permission_end first.bytes first.place i ∙ ap (λ (p : Position). permissions_in first.bytes first.place i ++ permission_in p.bytes p.place ∷ []) (sym here) in
      record {
        going = rw more one;
        ends = behind ∙ ap (λ (p : Position). permission_end p.bytes p.place) here ∙ sym (nested_end_next permission_end first.bytes first.place i);
        have = run_has_next HasPermission permission_end first.bytes first.place i h.have (subst (λ (p : Position). HasPermission p.bytes p.place) here has);
      }

  pub Listed-bad : (i : ℕ) (now : Position) (f : Fault) → i < count → permission_at (permissions_in first.bytes first.place i) inherited now.bytes now.place ≡ Bad f → Listed inherited count first i now → permissions_at inherited count first.bytes first.place ≡ Bad f
  unfolding permissions_at
  Listed-bad i now f lt e h = Going-bad (λ left listed. permission_at listed inherited) with_permission count [] first i (permissions_in first.bytes first.place i) now (permissions_in first.bytes first.place i) f lt e h.going

  -- all of them were read
  pub record Whole (now : Position) : Type 0 where
    pub read : Gave (permissions_at inherited count) (permissions_in first.bytes first.place count) first now
    pub ends : now.place ≡ permissions_end first.bytes first.place count
    pub have : HavePermissions first.bytes first.place count

  pub Listed-end : (i : ℕ) (now : Position) → count ≤ i → i ≤ count → Listed inherited count first i now → Whole now
  unfolding permissions_at
  Listed-end i now le ge h =
      let all : i ≡ count = omega arith in
      let k = subst (λ (n : ℕ). Listed inherited count first n now) all h in
      let read = Going-end (λ left listed. permission_at listed inherited) with_permission count [] first count (permissions_in first.bytes first.place count) now (permissions_in first.bytes first.place count) (omega arith) k.going in
      record { read = (read, k.going.same); ends = k.ends; have = k.have }
