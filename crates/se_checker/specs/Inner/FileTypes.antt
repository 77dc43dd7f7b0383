-- What is asked of the rules of files. It serves the code alone.
use Rattle.std.specs.Prelude.{ℕ, List, [], ◌∷◌, Some, None}
use Rattle.rule_grants.specs.Names.{file}
use Rattle.se_checker.specs.Verdicts.{Asked}

-- one of some permissions, for a domain that is not exempt, of files of a type that is not exempt
abbrev pub asked_of_files : List (List ℕ) → List (List ℕ) → List (List ℕ) → Asked
asked_of_files exempt_domains exempt_files permissions = record {
  source = None;
  exempt_source = exempt_domains;
  target = None;
  exempt_target = exempt_files;
  class = Some (file ∷ []);
  perms = Some permissions;
}
