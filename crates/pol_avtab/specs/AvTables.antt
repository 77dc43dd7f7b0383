-- Record 17: the table of access vectors (libsepol's avtab_read).
use Rattle.std.specs.Prelude.{ℕ, Some, List, []}
use Rattle.pol_fields.specs.declared.fields.TheConstants.{AVTAB_NEL}
use Rattle.pol_cursor.specs.Outcome.{Reader}
use Rattle.pol_cursor.specs.Parts.{list_of, counted, spell_counted, CountedFits}
use Rattle.pol_cursor.specs.Contexts.{records_after}
use Rattle.pol_cursor.specs.References.{Placed}
use Rattle.pol_avtab.specs.declared.av_rec.AvRec.{AvRec}
use Rattle.pol_avtab.specs.declared.av_key.AvKey.{AvKey}
use Rattle.pol_avtab.specs.AvKeys.{key_of, with_key}
use Rattle.pol_avtab.specs.AvRecord.{av_at, spell_av, AvFits}

-- what a rule is read under: the version, and the keys of the rules before it
pub record Earlier : Type 0 where
  pub version : ℕ
  pub keys : List AvKey

-- a rule behind the others
abbrev pub rule_at : Earlier → Reader AvRec
rule_at context = av_at context.version (Some context.keys)

-- what it is read under from then on
abbrev pub after_rule : Earlier → AvRec → Earlier
after_rule context av = record { version = context.version; keys = with_key context.keys (key_of av) }

-- the same before the first rule
abbrev pub no_rules : ℕ → Earlier
no_rules version = record { version = version; keys = [] }

-- n rules, each with its place
unfoldable pub placed_rules_at : ℕ → ℕ → Reader (List (Placed AvRec))
placed_rules_at version n = records_after rule_at after_rule n (no_rules version)

unfoldable pub table_at : ℕ → Reader (List (Placed AvRec))
table_at version = counted AVTAB_NEL (placed_rules_at version)

-- the same without the places
unfoldable pub rules_at : ℕ → ℕ → Reader (List AvRec)
rules_at version n = list_of (λ left context. rule_at context) after_rule n (no_rules version)

unfoldable pub plain_table_at : ℕ → Reader (List AvRec)
plain_table_at version = counted AVTAB_NEL (rules_at version)

abbrev pub spell_table : List AvRec → List ℕ
spell_table rules = spell_counted spell_av rules

abbrev pub TableFits : List AvRec → Type 0
TableFits rules = CountedFits AvFits rules
