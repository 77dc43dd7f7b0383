-- The two laws of a header.
use Rattle.std.proofs.Common.{◌≡◌, ℕ, ◌^◌, ◌<◌, List, bytes_eq, None, append_assoc, arith}
use Rattle.std.proofs.lemmas.List.{append-nil}
use Rattle.std.proofs.lemmas.Slice.Eq.{bytes_eq-Decides}
use Rattle.pol_fields.specs.declared.Cause.TheVariants.{BadMagic, BadIdentity, BadCounts}
use Rattle.pol_fields.specs.declared.codes.TheConstants.{SYM_NUM}
use Rattle.pol_fields.specs.declared.fields.TheConstants.{HEADER_MAGIC, HEADER_IDLEN, HEADER_ID, HEADER_VERSION, HEADER_CONFIG, HEADER_SYMTABS, HEADER_CONTEXTS}
use Rattle.pol_cursor.specs.Laws.{IsReadAgain, IsReadFromSpelling}
use Rattle.pol_cursor.proofs.Facts.{unless_none, unless_is}
use Rattle.pol_cursor.proofs.Laws.{Reads-done, Reads-part, Reads-number_if, Reads-string_if, Again-done, Again-part, Again-as, Again-number_if, Again-string_if}
use Rattle.pol_file.specs.HeaderRecord.{policy_magic, identity, identity_test, context_tables, identity_at, counts_at, header_at, spell_identity, spell_counts, spell_header, HeaderFits}

-- ---- the identity, which is spelled alike in every policy

identity_is : (id : List ℕ) → identity_test id ≡ None → id ≡ identity
identity_is id e = (bytes_eq-Decides id identity).0 (unless_none (bytes_eq id identity) BadIdentity e)

identity_spelled : IsReadFromSpelling identity_at (λ _. spell_identity) (λ _. Unit {0})
unfolding identity_at
identity_spelled =
    Reads-part (Reads-number_if HEADER_MAGIC 4) λ magic magic-fits.
    Reads-part (Reads-number_if HEADER_IDLEN 4) λ len len-fits.
    Reads-part (Reads-string_if HEADER_ID 8) λ id id-fits.
    Reads-done _ tt (record {
      same = rw (unless_is magic policy_magic BadMagic magic-fits.1, unless_is len 8 BadIdentity len-fits.1, identity_is id id-fits.1) (simp (append_assoc, append-nil));
      fitting = tt;
    })

identity_again : IsReadAgain identity_at (λ _. spell_identity) (λ _. Unit {0})
unfolding identity_at
identity_again u fits =
    Again-as
    (Again-part _ (Again-number_if HEADER_MAGIC 4 policy_magic _ (omega arith))
    (Again-part _ (Again-number_if HEADER_IDLEN 4 8 _ (omega arith))
    (Again-part _ (Again-string_if HEADER_ID identity _)
    (Again-done u))))
    (simp (append_assoc, append-nil))

-- ---- the numbers of tables, which the version gives

counts_spelled : (version : ℕ) → IsReadFromSpelling (counts_at version) (λ _. spell_counts version) (λ _. Unit {0})
unfolding counts_at
counts_spelled version =
    Reads-part (Reads-number_if HEADER_SYMTABS 4) λ symbols symbols-fits.
    Reads-part (Reads-number_if HEADER_CONTEXTS 4) λ contexts contexts-fits.
    Reads-done _ tt (record {
      same = rw (unless_is symbols SYM_NUM BadCounts symbols-fits.1, unless_is contexts (context_tables version) BadCounts contexts-fits.1) (simp append-nil);
      fitting = tt;
    })

context_tables-lt : (version : ℕ) → context_tables version < 256 ^ 4
context_tables-lt version = grind arith

counts_again : (version : ℕ) → IsReadAgain (counts_at version) (λ _. spell_counts version) (λ _. Unit {0})
unfolding counts_at
counts_again version u fits =
    Again-as
    (Again-part _ (Again-number_if HEADER_SYMTABS 4 SYM_NUM _ (omega arith))
    (Again-part _ (Again-number_if HEADER_CONTEXTS 4 (context_tables version) _ (context_tables-lt version))
    (Again-done u)))
    (simp append-nil)

-- ---- the header

pub header_spelled : IsReadFromSpelling header_at spell_header HeaderFits
unfolding header_at
header_spelled =
    Reads-part identity_spelled λ identified identified-fits.
    Reads-part (Reads-number_if HEADER_VERSION 4) λ version version-fits.
    Reads-part (Reads-number_if HEADER_CONFIG 4) λ config config-fits.
    Reads-part (counts_spelled version) λ counted counted-fits.
    Reads-done _ (record { version = version; config = config }) (record {
      same = simp (append_assoc, append-nil);
      fitting = record { version = version-fits.0; config = config-fits.0 };
    })

pub header_again : IsReadAgain header_at spell_header HeaderFits
unfolding header_at
header_again header fits =
    Again-as
    (Again-part _ (identity_again tt tt)
    (Again-part _ (Again-number_if HEADER_VERSION 4 header.version _ fits.version)
    (Again-part _ (Again-number_if HEADER_CONFIG 4 header.config _ fits.config)
    (Again-part _ (counts_again header.version tt tt)
    (Again-done header)))))
    (simp (append_assoc, append-nil))
