-- The reasons of a transition are rules of the policy. It serves the code alone.
use Rattle.std.specs.List.{All}
use Rattle.pol_file.specs.declared.Parts.{Parts}
use Rattle.rule_order.specs.ListedOrder.{AreRules}
use Rattle.dom_trans.specs.declared.EntryReason.{EntryReason}
use Rattle.dom_trans.specs.declared.Reasons.{Reasons}

pub record AreEntryRules (policy : Parts) (reason : EntryReason) : Type 0 where
  pub entrypoint : AreRules policy reason.entrypoint
  pub execute : AreRules policy reason.execute
  pub default : AreRules policy reason.default

pub record AreReasonRules (policy : Parts) (reasons : Reasons) : Type 0 where
  pub transition : AreRules policy reasons.transition
  pub setexec : AreRules policy reasons.setexec
  pub entries : All (AreEntryRules policy) reasons.entries
  pub dyntransition : AreRules policy reasons.dyntransition
  pub setcurrent : AreRules policy reasons.setcurrent
