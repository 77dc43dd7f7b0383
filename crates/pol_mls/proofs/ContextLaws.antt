-- The two laws of contexts.
use Rattle.std.proofs.Common.{append_assoc}
use Rattle.std.proofs.lemmas.List.{append-nil}
use Rattle.pol_fields.specs.declared.fields.TheConstants.{CONTEXT_USER, CONTEXT_ROLE, CONTEXT_TYPE}
use Rattle.pol_cursor.specs.Laws.{IsReadAgain, IsReadFromSpelling}
use Rattle.pol_cursor.proofs.Laws.{Reads-done, Reads-part, Reads-number, Again-done, Again-part, Again-as, Again-number}
use Rattle.pol_mls.proofs.MlsLaws.{range_spelled, range_again}
use Rattle.pol_mls.specs.ContextRecord.{context_at, spell_context, ContextFits}

pub context_spelled : IsReadFromSpelling context_at spell_context ContextFits
unfolding context_at
context_spelled =
    Reads-part (Reads-number CONTEXT_USER 4) λ user user-fits.
    Reads-part (Reads-number CONTEXT_ROLE 4) λ role role-fits.
    Reads-part (Reads-number CONTEXT_TYPE 4) λ type_value type_value-fits.
    Reads-part range_spelled λ range range-fits.
    Reads-done _ (record { user = user; role = role; type_value = type_value; range = range }) (record {
      same = simp (append_assoc, append-nil);
      fitting = record { user = user-fits; role = role-fits; type_value = type_value-fits; range = range-fits };
    })

pub context_again : IsReadAgain context_at spell_context ContextFits
unfolding context_at
context_again context fits =
    Again-as
    (Again-part _ (Again-number CONTEXT_USER 4 context.user fits.user)
    (Again-part _ (Again-number CONTEXT_ROLE 4 context.role fits.role)
    (Again-part _ (Again-number CONTEXT_TYPE 4 context.type_value fits.type_value)
    (Again-part _ (range_again context.range fits.range)
    (Again-done context)))))
    (simp (append_assoc, append-nil))
