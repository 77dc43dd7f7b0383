-- A policy that was read has its file-name transitions in the form of its version.
use Rattle.std.proofs.Common.{◌≡◌, ℕ, Bool, true, false, Ok, List, [], refl}
use Rattle.std.specs.Prelude.{if◌then◌else◌}
use Rattle.pol_fields.specs.declared.fields.TheConstants.{ROLETRANS_COUNT, ROLEALLOW_COUNT, NAMETRANS_COUNT, NAMEGROUP_COUNT, END_END}
use Rattle.pol_cursor.specs.Parts.{counted, end_at, records_at}
use Rattle.pol_cursor.specs.References.{placed}
use Rattle.pol_symtab.specs.Inner.Freshness.{Gives}
use Rattle.pol_symtab.proofs.FreshRecords.{Gives-part, Gives-done}
use Rattle.pol_symbols.specs.PolicySymbols.{symbols_at}
use Rattle.pol_avtab.specs.AvTables.{table_at as rule_table_at}
use Rattle.pol_conditionals.specs.CondNodeList.{conditionals_at}
use Rattle.pol_trans.specs.declared.NameTrans.{NameTrans}
use Rattle.pol_trans.specs.declared.NameTrans.TheVariants.{Entries, Groups}
use Rattle.pol_trans.specs.RoleTransRecord.{role_trans_at}
use Rattle.pol_trans.specs.RoleAllowRecord.{role_allow_at}
use Rattle.pol_trans.specs.NameTransRecord.{name_trans_at}
use Rattle.pol_trans.specs.NameGroupRecord.{name_group_at}
use Rattle.pol_trans.specs.NameTransitions.{entries_at, groups_at, has_groups}
use Rattle.pol_file.specs.declared.Parts.{Parts}
use Rattle.pol_file.specs.PolicyParts.{front_at, label_lists_at, policy_at, rule_lists_at}
use Rattle.pol_file.specs.Acceptance.{accept}
use Rattle.pol_file.proofs.Acceptances.{accepted_was_read}
use Rattle.pol_file.proofs.ReadValues.{gives-others}
use Rattle.pol_tree.specs.PolicyTree.{entries_of, groups_of}

-- where they are groups there is no entry, and where they stand one by one there is no group
pub record HasForm (groups : Bool) (trans : NameTrans) : Type 0 where
  pub no_entry : groups ≡ true → entries_of trans ≡ []
  pub no_group : groups ≡ false → groups_of trans ≡ []

names_have_form : (groups : Bool) → Gives (if groups then groups_at else entries_at) (HasForm groups)
names_have_form true = gives-others (counted NAMEGROUP_COUNT (records_at (placed name_group_at))) λ groups. Gives-done _ (Groups groups) (record { no_entry = λ e. refl; no_group = λ e. absurd (cc e) })
names_have_form false = gives-others (counted NAMETRANS_COUNT (records_at (placed name_trans_at))) λ entries. Gives-done _ (Entries entries) (record { no_entry = λ e. absurd (cc e); no_group = λ e. refl })

rules_have_form : (version : ℕ) → Gives (rule_lists_at version) (λ rules. HasForm (has_groups version) rules.name_trans)
unfolding rule_lists_at
rules_have_form version =
    gives-others (rule_table_at version) λ table.
    gives-others (conditionals_at version) λ conditionals.
    gives-others (counted ROLETRANS_COUNT (records_at (placed role_trans_at))) λ role_trans.
    gives-others (counted ROLEALLOW_COUNT (records_at (placed role_allow_at))) λ role_allows.
    Gives-part (names_have_form (has_groups version)) λ name_trans form.
    Gives-done _ _ form

policy_has_form : Gives policy_at (λ policy. HasForm (has_groups policy.front.header.version) policy.rules.name_trans)
unfolding policy_at
policy_has_form =
    gives-others front_at λ front.
    gives-others (symbols_at front.header.version) λ symbols.
    Gives-part (rules_have_form front.header.version) λ rules form.
    gives-others (label_lists_at front.header.version symbols.types.nprim) λ labels.
    gives-others (end_at END_END) λ ended.
    Gives-done _ _ form

pub accepted_has_form : (bytes : List ℕ) (policy : Parts) → accept bytes ≡ Ok policy → HasForm (has_groups policy.front.header.version) policy.rules.name_trans
accepted_has_form bytes policy e = let was = accepted_was_read bytes policy e in policy_has_form.each bytes 0 policy was.next was.read
