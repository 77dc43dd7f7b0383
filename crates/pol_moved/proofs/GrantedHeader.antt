-- The header of a policy is read where no condition refuses it.
use Rattle.std.proofs.Common.{◌≡◌, ℕ, ◌<◌, ◌^◌, None, refl, append_assoc, arith}
use Rattle.std.proofs.lemmas.Bool.{eq-eqb}
use Rattle.std.proofs.lemmas.List.{append-nil}
use Rattle.pol_fields.specs.declared.fields.TheConstants.{HEADER_MAGIC, HEADER_IDLEN, HEADER_ID, HEADER_VERSION, HEADER_CONFIG, HEADER_SYMTABS, HEADER_CONTEXTS}
use Rattle.pol_file.specs.declared.HeaderRec.{HeaderRec}
use Rattle.pol_file.specs.HeaderRecord.{identity, version_test, config_test, context_tables, context_tables_test, identity_at, counts_at, header_at, spell_identity, spell_counts, spell_header, HeaderFits}
use Rattle.pol_moved.proofs.Granted.{GrantsOf, grants-done, grants-then, grants-as, grants-number_if, grants-string_if}

identity-granted : GrantsOf identity_at tt spell_identity
unfolding identity_at
identity-granted =
    grants-as
    (grants-then _ (grants-number_if HEADER_MAGIC 4 0xf97cff8c _ (omega arith) refl)
    (grants-then _ (grants-number_if HEADER_IDLEN 4 8 _ (omega arith) refl)
    (grants-then _ (grants-string_if HEADER_ID identity _ refl)
    (grants-done tt refl))))
    (simp (append_assoc, append-nil))

context_tables-lt : (version : ℕ) → context_tables version < 256 ^ 4
context_tables-lt version = grind arith

context_tables-right : (version : ℕ) → context_tables_test version (context_tables version) ≡ None
context_tables-right version = rw (eq-eqb (context_tables version) (context_tables version) refl) refl

counts-granted : (version : ℕ) → GrantsOf (counts_at version) tt (spell_counts version)
unfolding counts_at
counts-granted version =
    grants-as
    (grants-then _ (grants-number_if HEADER_SYMTABS 4 8 _ (omega arith) refl)
    (grants-then _ (grants-number_if HEADER_CONTEXTS 4 (context_tables version) _ (context_tables-lt version) (context_tables-right version))
    (grants-done tt refl)))
    (simp append-nil)

pub header-granted : (header : HeaderRec) → HeaderFits header → version_test header.version ≡ None → config_test header.config ≡ None → GrantsOf header_at header (spell_header header)
unfolding header_at
header-granted header fits version config =
    grants-as
    (grants-then _ identity-granted
    (grants-then _ (grants-number_if HEADER_VERSION 4 header.version _ fits.version version)
    (grants-then _ (grants-number_if HEADER_CONFIG 4 header.config _ fits.config config)
    (grants-then _ (counts-granted header.version)
    (grants-done header refl)))))
    (simp (append_assoc, append-nil))
