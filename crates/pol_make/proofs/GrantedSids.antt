-- The initial SID of a policy that is made is read.
use Rattle.std.proofs.Common.{◌≡◌, ℕ, ◌^◌, ◌<◌, [], ◌∷◌, refl, append_assoc, arith}
use Rattle.std.proofs.lemmas.List.{append-nil}
use Rattle.pol_fields.specs.declared.fields.TheConstants.{RANGE_N, RANGE_LOW, CONTEXT_USER, CONTEXT_ROLE, CONTEXT_TYPE, SID_COUNT, SID_SID}
use Rattle.pol_cursor.specs.Parts.{counted, records_at, spell_counted}
use Rattle.pol_cursor.specs.References.{placed}
use Rattle.pol_mls.specs.RangeRecord.{range_at, spell_range}
use Rattle.pol_mls.specs.declared.ContextRec.{ContextRec}
use Rattle.pol_mls.specs.ContextRecord.{context_at, spell_context}
use Rattle.pol_contexts.specs.declared.SidRec.{SidRec}
use Rattle.pol_contexts.specs.SidRecord.{sid_at, spell_sid}
use Rattle.pol_make.specs.MadeSymbols.{bare_range}
use Rattle.pol_make.specs.MadeRules.{made_sids}
use Rattle.pol_moved.proofs.Granted.{GrantsOf, grants-done, grants-then, grants-as, grants-number, grants-number_if, grants-none}
use Rattle.pol_make.proofs.GrantedTables.{GrantsValues, grants-entries}
use Rattle.pol_make.proofs.GrantedFew.{nothing-granted}

-- the range of one level without categories
pub bare_range-granted : GrantsOf range_at bare_range (spell_range bare_range)
unfolding range_at
bare_range-granted =
    grants-as
    (grants-then _ (grants-number_if RANGE_N 4 1 _ (omega arith) refl)
    (grants-then _ (grants-number RANGE_LOW 4 1 (omega arith))
    (grants-then _ (grants-none _)
    (grants-then _ nothing-granted
    (grants-then _ (grants-none _)
    (grants-done bare_range refl))))))
    (simp (append_assoc, append-nil))

context-granted : (user role type_value : ℕ) → user < 2 ^ 32 → role < 2 ^ 32 → type_value < 2 ^ 32 → let context : ContextRec = record { user = user; role = role; type_value = type_value; range = bare_range } in GrantsOf context_at context (spell_context context)
unfolding context_at
context-granted user role type_value user-fits role-fits type-fits =
    grants-as
    (grants-then _ (grants-number CONTEXT_USER 4 user user-fits)
    (grants-then _ (grants-number CONTEXT_ROLE 4 role role-fits)
    (grants-then _ (grants-number CONTEXT_TYPE 4 type_value type-fits)
    (grants-then _ bare_range-granted
    (grants-done (record { user = user; role = role; type_value = type_value; range = bare_range }) refl)))))
    (simp (append_assoc, append-nil))

-- its only one
abbrev pub kernel_sid : SidRec
kernel_sid = record { sid = 1; context = record { user = 1; role = 2; type_value = 1; range = bare_range } }

sid-granted : (entry : SidRec) → entry ≡ kernel_sid → GrantsOf sid_at entry (spell_sid entry)
unfolding sid_at
sid-granted entry is =
    rw is
    (grants-as
    (grants-then _ (grants-number SID_SID 4 1 (omega arith))
    (grants-then _ (context-granted 1 2 1 (omega arith) (omega arith) (omega arith))
    (grants-done kernel_sid refl)))
    (simp (append_assoc, append-nil)))

pub sids-granted : GrantsValues (counted SID_COUNT (records_at (placed sid_at))) made_sids (spell_counted spell_sid made_sids)
unfolding made_sids
sids-granted = grants-entries SID_COUNT sid_at spell_sid (λ entry. entry ≡ kernel_sid) sid-granted (kernel_sid ∷ []) (omega arith) (refl, tt)
