use Rattle.std.proofs.Common.{refl}
use Rattle.se_outside.proofs.Found.{held-added}
use Rattle.se_outside.proofs.SlotLemmas.{mem_state-added}
use Rattle.se_outside.proofs.Slots.{none-asked}
use Rattle.se_outside.specs.MemFiles.{mem_state}
use Rattle.se_outside.proofs.mem_files.MemFiles.add.Goals as goal

pub returns-in_err-push-clause-asked : goal.returns-in_err-push-clause-asked
returns-in_err-push-clause-asked c = none-asked (mem_state c.args.self.now) _ refl refl refl

pub returns-clause-asked : goal.returns-clause-asked
returns-clause-asked c = none-asked (mem_state c.args.self.now) _ refl refl refl

pub returns-clause-slots : goal.returns-clause-slots
returns-clause-slots c = mem_state-added c.args.self.now _ _ _ c.in_ok-push.ensures.items refl refl refl

pub returns-clause-holds : goal.returns-clause-holds
returns-clause-holds c = held-added _ _ _ _ _ c.in_ok-push.ensures.items c.in_ok-from_str.ensures.ok c.in_ok-from_slice.ensures.items
