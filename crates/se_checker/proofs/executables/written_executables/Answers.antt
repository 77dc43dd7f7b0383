use Rattle.std.proofs.Common.{[], ◌∷◌, ap, ◌∙◌, codes}
use Rattle.pol_bitmap.specs.Nodes.{bits_of}
use Rattle.text_rows.specs.TextLines.{fields_in}
use Rattle.check_list.specs.declared.CheckKey.TheVariants as keys
use Rattle.check_list.specs.Checklists.{listed}
use Rattle.rule_grants.specs.Names.{execute}
use Rattle.se_checker.specs.Members.{members}
use Rattle.se_checker.specs.Verdicts.{append, write}
use Rattle.se_checker.proofs.FileWords.{execute_alone, write_and_append}
use Rattle.se_checker.proofs.GivenFiles.{found_written, same_asked}
use Rattle.se_checker.proofs.executables.written_executables.Goals as goal

pub returns : goal.returns
returns c =
    let policy = c.args.policy.now in
    let check = c.args.check.now in
    let accepted = c.is_accepted.ensures.accepted in
    found_written accepted.0 policy accepted.1 check c.in_ok-executed.executed c.in_ok-written.written c.in_ok-both.both c.in_ok-without.without c.difference.result
    (same_asked policy (bits_of c.in_ok-executed.executed) (fields_in c.listed-executing.result.now) (listed check keys.ExemptExecDomain) (fields_in c.listed-exempt.result.now) (listed check keys.ExemptFile) (fields_in (codes "execute")) (execute ∷ [])
    c.listed-executing.ensures c.listed-exempt.ensures execute_alone c.in_ok-executed.ensures)
    (same_asked policy (bits_of c.in_ok-written.written) (fields_in c.listed-writing.result.now) (listed check keys.ExemptWriteDomain) (fields_in c.listed-exempt.result.now) (listed check keys.ExemptFile) (fields_in (codes "write append")) (write ∷ append ∷ [])
    c.listed-writing.ensures c.listed-exempt.ensures write_and_append c.in_ok-written.ensures)
    c.in_ok-both.ensures.bits (c.in_ok-without.ensures ∙ ap (members policy) c.listed-exempt.ensures) c.difference.ensures.form c.difference.ensures.bits
