-- How a run ends: its words ask something of the program itself, or else a question about a policy, or for a policy.
use Rattle.std.specs.Prelude.{◌≡◌, ℕ, Option, Some, None, Result}
use Rattle.se_outside.specs.Outside.{World}
use Rattle.se_outside.specs.declared.Slot.{Slot}
use Rattle.se_options.specs.Request.{Asks}
use Rattle.se_help.specs.declared.Topic.{Topic}
use Rattle.se_help.specs.Texts.{topic_text}
use Rattle.se_status.specs.declared.Status.{Status}
use Rattle.se_status.specs.declared.Status.TheVariants.{Memory}
use Rattle.se_status.specs.Conclusion.{Concludes, IsWritten, done}
use Rattle.se_tools.specs.Answers.{Answers, Outside}

-- How a run ends that tells of the program itself: it writes the text of the topic, without memory, asks for no file and builds no pattern.
pub record Explains (topic : Topic) (old new : Outside) (status : Status) : Type 0 where
  pub concludes : Concludes (done (topic_text topic)) old.sink new.sink status
  pub written : IsWritten status
  pub memory : status ≡ Memory → ⊥
  pub files : (slot : Slot) → new.files slot ≡ old.files slot
  pub patterns : new.patterns ≡ old.patterns

-- How a run ends but for its message: it tells of the topic that the words ask for, if they do, and else answers what they ask.
abbrev pub Runs : Option Topic → Result Asks ℕ → World → Outside → Outside → Status → Type 0
Runs (Some topic) request world old new status = Explains topic old new status
Runs None request world old new status = Answers request world old new status
