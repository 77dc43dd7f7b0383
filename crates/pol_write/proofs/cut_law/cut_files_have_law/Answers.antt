use Rattle.pol_write.proofs.CutPolicies.{cut_is_short, cut_in_field}
use Rattle.pol_write.proofs.cut_law.cut_files_have_law.Goals as goal

pub returns-clause-short : goal.returns-clause-short
returns-clause-short c = cut_is_short

pub returns-clause-field : goal.returns-clause-field
returns-clause-field c = cut_in_field
