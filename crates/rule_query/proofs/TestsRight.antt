-- Tests pass exactly the rules that meet their criteria.
use Rattle.std.proofs.Common.{◌≡◌, ℕ, Result, Ok, Err, IfOk, List}
use Rattle.pol_fields.specs.declared.TableKind.TheVariants.{Roles, Types}
use Rattle.pol_bitmap.specs.declared.Node.{Node}
use Rattle.pol_bitmap.specs.Nodes.{has_bit}
use Rattle.pol_symbols.specs.declared.Symbols.{Symbols}
use Rattle.pol_file.specs.declared.Parts.{Parts}
use Rattle.pol_read.specs.DeclaredRules.{IsDeclaredIn}
use Rattle.rule_criteria.specs.declared.Criterion.{Criterion}
use Rattle.rule_tests.specs.declared.PermissionTest.{PermissionTest}
use Rattle.rule_tests.specs.PartTests.{IsPermissionTest}
use Rattle.rule_tests.proofs.PermissionTests.{permissions_are}
use Rattle.rule_query.specs.declared.given.Aspect.TheVariants as aspects
use Rattle.rule_query.specs.declared.ends.Ends.{Ends}
use Rattle.rule_query.specs.declared.tests.Test.TheVariants as tests
use Rattle.rule_query.specs.Ends.{is_meant, meets_type}
use Rattle.rule_query.specs.Inner.LookedUp.{AreEnds, AreMeant}
use Rattle.rule_query.specs.Inner.Resolved.{IsTestOf}

-- ---- ends

module _ {E : Type 0} (criterion : Criterion) (types roles : List Node) where
  pub are_ends : (policy : Parts) (r : Result Ends E) → IfOk r (λ ends. ends.types ≡ types) → IfOk r (λ ends. ends.roles ≡ roles)
      → ((value : ℕ) → IsDeclaredIn policy.symbols Types value → has_bit types value ≡ meets_type policy criterion value) → ((value : ℕ) → has_bit roles value ≡ is_meant policy.symbols Roles criterion value) → IfOk r (AreEnds policy criterion)
  are_ends policy (Err e) of_types of_roles have_types have_roles = tt
  are_ends policy (Ok ends) of_types of_roles have_types have_roles = record { types = rw of_types have_types; roles = rw of_roles have_roles }

  pub are_meant : (symbols : Symbols) (r : Result Ends E) → IfOk r (λ ends. ends.types ≡ types) → IfOk r (λ ends. ends.roles ≡ roles)
      → ((value : ℕ) → has_bit types value ≡ is_meant symbols Types criterion value) → ((value : ℕ) → has_bit roles value ≡ is_meant symbols Roles criterion value) → IfOk r (AreMeant symbols criterion)
  are_meant symbols (Err e) of_types of_roles have_types have_roles = tt
  are_meant symbols (Ok ends) of_types of_roles have_types have_roles = record { types = rw of_types have_types; roles = rw of_roles have_roles }

-- ---- permissions

pub permissions_right : (policy : Parts) (criterion : Criterion) (test : PermissionTest) → IsPermissionTest policy.symbols criterion test → IsTestOf policy (record { aspect = aspects.Permissions; criterion = criterion }) (tests.Permissions test)
permissions_right policy criterion test is = record { tells = λ rule declared. permissions_are policy.symbols criterion test is rule.class rule.part; sources = tt; targets = tt }
