-- The message of each status.
use Rattle.std.specs.Prelude.{ℕ, List, [], ◌∷◌, ◌++◌, codes, decimal}
use Rattle.std.specs.List.{concat}
use Rattle.perm_map.specs.MapFaults.{cause_word as map_cause_word}
use Rattle.check_list.specs.CheckWords.{cause_word as list_cause_word}
use Rattle.pol_unheld.specs.UnheldWords.{unheld_word}
use Rattle.pol_fields.specs.declared.Cause.{Cause}
use Rattle.pol_fields.specs.declared.Cause.TheVariants.{Dangling}
use Rattle.pol_fields.specs.FaultWords.{cause_word, table_word}
use Rattle.pol_fields.specs.FieldWords.{field_word}
use Rattle.se_outside.specs.declared.Slot.{Slot}
use Rattle.se_outside.specs.declared.Slot.TheVariants as slots
use Rattle.se_outside.specs.declared.PatternKind.{PatternKind}
use Rattle.se_outside.specs.declared.PatternKind.TheVariants.{Syntax, Refused}
use Rattle.se_status.specs.declared.message.Part.{Part}
use Rattle.se_status.specs.declared.message.Part.TheVariants.{Text, Number}
use Rattle.se_status.specs.declared.status.Status.{Status}
use Rattle.se_status.specs.declared.status.Status.TheVariants.{Done, Usage, ReadFault, TooLarge, BadPolicy, BadMap, BadList, CannotHold, UnknownName, BadNumber, BadPattern, WriteFault, Memory}

-- what a slot is called
abbrev pub slot_word : Slot → List ℕ
slot_word slots.Policy = codes "policy"
slot_word slots.Map = codes "map"
slot_word slots.List = codes "checklist"

-- what is wrong with a pattern
abbrev pub pattern_words : PatternKind → List ℕ
pattern_words Syntax = codes ": not a pattern"
pattern_words Refused = codes ": pattern refused"

-- the word of a cause, and after it what a reference that dangles refers to
abbrev pub cause_parts : Cause → List (List ℕ)
cause_parts (Dangling table value) = cause_word (Dangling table value) ∷ codes " " ∷ table_word table ∷ codes " " ∷ decimal value ∷ []
cause_parts cause = cause_word cause ∷ []

-- the line that says these parts
abbrev pub said : List (List ℕ) → List ℕ
said parts = codes "setools: " ++ (concat parts ++ codes "\n")

-- what is said on a status, and nothing where all is done
abbrev pub message_of : Status → List ℕ
message_of Done = []
message_of (Usage word) = said (codes "word " ∷ decimal word ∷ codes " does not fit" ∷ [])
message_of (ReadFault slot) = said (slot_word slot ∷ codes ": read failed" ∷ [])
message_of (TooLarge slot) = said (slot_word slot ∷ codes ": too large" ∷ [])
message_of (BadPolicy fault) = said (codes "policy: place " ∷ decimal fault.place ∷ codes ", field " ∷ field_word fault.field ∷ codes ": " ∷ cause_parts fault.cause)
message_of (BadMap fault) = said (codes "map: line " ∷ decimal fault.line ∷ codes ": " ∷ map_cause_word fault.cause ∷ [])
message_of (BadList fault) = said (codes "checklist: line " ∷ decimal fault.line ∷ codes ": " ∷ list_cause_word fault.cause ∷ [])
message_of (CannotHold version unheld) = said (codes "version " ∷ decimal version ∷ codes " cannot hold: " ∷ unheld_word unheld ∷ [])
message_of (UnknownName word) = said (codes "word " ∷ decimal word ∷ codes ": unknown name" ∷ [])
message_of (BadNumber word) = said (codes "word " ∷ decimal word ∷ codes ": not a number" ∷ [])
message_of (BadPattern word kind) = said (codes "word " ∷ decimal word ∷ pattern_words kind ∷ [])
message_of WriteFault = said (codes "write failed" ∷ [])
message_of Memory = said (codes "out of memory" ∷ [])

-- the text of a part of a message
abbrev pub part_text : Part → List ℕ
part_text (Text text) = text.now
part_text (Number number) = decimal number
