-- The two laws of access vectors and of their table.
use Rattle.std.proofs.Common.{◌≡◌, ℕ, Bool, true, false, Option, List, length, refl, append_assoc}
use Rattle.std.specs.List.{flat_map, AllByRecursion}
use Rattle.std.proofs.lemmas.List.{append-nil}
use Rattle.pol_fields.specs.declared.fields.TheConstants.{AV_SOURCE, AV_TARGET, AV_CLASS, AV_SPECIFIED, AV_XKIND, AV_DRIVER, AV_BITS, AV_DATA, AVTAB_NEL}
use Rattle.pol_cursor.specs.Outcome.{Reader, Outcome, Got, Bad, and_then}
use Rattle.pol_cursor.specs.Parts.{number}
use Rattle.pol_cursor.specs.References.{Placed, without_places}
use Rattle.pol_cursor.specs.Laws.{Again, Reads, IsSpelling, IsReadAgain, IsReadFromSpelling}
use Rattle.pol_cursor.proofs.Laws.{Reads-done, Reads-part, Reads-number, Reads-number_if, Reads-string, Reads-list_of, Again-done, Again-part, Again-as, Again-number, Again-number_if, Again-string-of, Again-list_of, counted_spelled, counted_again}
use Rattle.pol_cursor.proofs.ContextLists.{records_after_unplaced}
use Rattle.pol_avtab.specs.declared.av_key.AvKey.{AvKey}
use Rattle.pol_avtab.specs.declared.av_rec.AvRec.{AvRec}
use Rattle.pol_avtab.specs.declared.av_rec.AvPart.TheVariants.{Data, Extended}
use Rattle.pol_avtab.specs.AvRecord.{is_extended, extended_at, data_at, part_at, av_at, spell_part, spell_av, PartFits, AvFits}
use Rattle.pol_avtab.specs.AvTables.{rule_at, after_rule, no_rules, placed_rules_at, table_at, rules_at, plain_table_at, spell_table, TableFits}

-- ---- the last part

extended_spelled : IsReadFromSpelling extended_at spell_part (PartFits true)
unfolding extended_at
extended_spelled =
    Reads-part (Reads-number_if AV_XKIND 1) λ xkind xkind-fits.
    Reads-part (Reads-number AV_DRIVER 1) λ driver driver-fits.
    Reads-part (Reads-string AV_BITS 32) λ bits bits-fit.
    Reads-done _ (Extended xkind driver bits) (record { same = simp (append_assoc, append-nil); fitting = (refl, xkind-fits.0, driver-fits, bits-fit) })

data_spelled : IsReadFromSpelling data_at spell_part (PartFits false)
unfolding data_at
data_spelled =
    Reads-part (Reads-number AV_DATA 4) λ mask mask-fits.
    Reads-done _ (Data mask) (record { same = simp append-nil; fitting = (refl, mask-fits) })

part_spelled : (extended : Bool) → IsReadFromSpelling (part_at extended) spell_part (PartFits extended)
unfolding part_at
part_spelled true = extended_spelled
part_spelled false = data_spelled

part_again : (extended : Bool) → IsReadAgain (part_at extended) spell_part (PartFits extended)
unfolding part_at extended_at data_at
part_again true (Extended xkind driver bits) fits =
    Again-as
    (Again-part _ (Again-number_if AV_XKIND 1 xkind _ fits.1)
    (Again-part _ (Again-number AV_DRIVER 1 driver fits.2)
    (Again-part _ (Again-string-of AV_BITS 32 bits fits.3)
    (Again-done (Extended xkind driver bits)))))
    (simp (append_assoc, append-nil))
part_again true (Data mask) fits = absurd (let e = fits.0 in cc)
part_again false (Extended xkind driver bits) fits = absurd (let e = fits.0 in cc)
part_again false (Data mask) fits = Again-as (Again-part _ (Again-number AV_DATA 4 mask fits.1) (Again-done (Data mask))) (simp append-nil)

-- ---- access vectors

pub av_spelled : (version : ℕ) (earlier : Option (List AvKey)) → IsReadFromSpelling (av_at version earlier) spell_av AvFits
unfolding av_at
av_spelled version earlier =
    Reads-part (Reads-number AV_SOURCE 2) λ source source-fits.
    Reads-part (Reads-number AV_TARGET 2) λ target target-fits.
    Reads-part (Reads-number AV_CLASS 2) λ class class-fits.
    Reads-part (Reads-number_if AV_SPECIFIED 2) λ specified specified-fits.
    Reads-part (part_spelled (is_extended specified)) λ part part-fits.
    Reads-done _ (record { source = source; target = target; class = class; specified = specified; part = part }) (record {
      same = simp (append_assoc, append-nil);
      fitting = record { source = source-fits; target = target-fits; class = class-fits; specified = specified-fits.0; part = part-fits };
    })

pub av_again : (version : ℕ) (earlier : Option (List AvKey)) → IsReadAgain (av_at version earlier) spell_av AvFits
unfolding av_at
av_again version earlier av fits =
    Again-as
    (Again-part _ (Again-number AV_SOURCE 2 av.source fits.source)
    (Again-part _ (Again-number AV_TARGET 2 av.target fits.target)
    (Again-part _ (Again-number AV_CLASS 2 av.class fits.class)
    (Again-part _ (Again-number_if AV_SPECIFIED 2 av.specified _ fits.specified)
    (Again-part _ (part_again (is_extended av.specified) av.part fits.part)
    (Again-done av))))))
    (simp (append_assoc, append-nil))

-- ---- the table

rules_spelled : (version n : ℕ) → Reads (rules_at version n) (IsSpelling (flat_map spell_av) (λ rules. (length rules ≡ n) × AllByRecursion AvFits rules))
unfolding rules_at
rules_spelled version n = Reads-list_of (λ left context. rule_at context) after_rule spell_av AvFits (λ left context. av_spelled context.version _) n (no_rules version)

rules_again : (version : ℕ) (rules : List AvRec) → AllByRecursion AvFits rules → Again (rules_at version (length rules)) rules (flat_map spell_av rules)
unfolding rules_at
rules_again version rules fits = Again-list_of (λ left context. rule_at context) after_rule spell_av AvFits (λ left context. av_again context.version _) rules (no_rules version) fits

pub table_spelled : (version : ℕ) → IsReadFromSpelling (plain_table_at version) spell_table TableFits
unfolding plain_table_at
table_spelled version = counted_spelled AVTAB_NEL (rules_at version) spell_av AvFits (rules_spelled version)

pub table_again : (version : ℕ) → IsReadAgain (plain_table_at version) spell_table TableFits
unfolding plain_table_at
table_again version = counted_again AVTAB_NEL (rules_at version) spell_av AvFits (rules_again version)

-- a counted list that is read with places
pub unplaced_counted : {A : Type 0} (bytes : List ℕ) (placed_at : ℕ → Reader (List (Placed A))) (plain_at : ℕ → Reader (List A)) → ((n next : ℕ) → without_places (placed_at n bytes next) ≡ plain_at n bytes next)
    → (o : Outcome ℕ) → without_places (and_then o (λ n next. placed_at n bytes next)) ≡ and_then o (λ n next. plain_at n bytes next)
unplaced_counted bytes placed_at plain_at each (Got n next) = each n next
unplaced_counted bytes placed_at plain_at each (Bad f) = refl

pub table_unplaced : (version : ℕ) (bytes : List ℕ) (place : ℕ) → without_places (table_at version bytes place) ≡ plain_table_at version bytes place
unfolding table_at plain_table_at placed_rules_at rules_at
table_unplaced version bytes place =
    unplaced_counted bytes (placed_rules_at version) (rules_at version) (λ n next. records_after_unplaced rule_at after_rule n (no_rules version) bytes next) (number AVTAB_NEL 4 bytes place)
