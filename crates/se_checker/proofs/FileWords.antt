-- The words of the permissions of files.
use Rattle.std.proofs.Common.{◌≡◌, [], ◌∷◌, codes, refl}
use Rattle.text_rows.specs.TextLines.{fields_in}
use Rattle.rule_grants.specs.Names.{file, execute}
use Rattle.se_checker.specs.Verdicts.{write, append}

pub file_alone : fields_in (codes "file") ≡ file ∷ []
unfolding fields_in file
file_alone = refl

pub execute_alone : fields_in (codes "execute") ≡ execute ∷ []
unfolding fields_in execute
execute_alone = refl

pub write_and_append : fields_in (codes "write append") ≡ write ∷ append ∷ []
unfolding fields_in write append
write_and_append = refl
