use Rattle.std.proofs.Common.{◌∙◌, ◌+◌, ◌≤◌, ap, arith, length, length-drop, rules}
use Rattle.std.proofs.lemmas.List.{take_rest}
use Rattle.se_tools.proofs.Turns.{read-placed}
use Rattle.se_tools.proofs.reading.read_on.Goals as goal

pub returns-clause-reads : goal.returns-clause-reads
returns-clause-reads g c =
    let room = c.read.auto.into ∙ ap length (take_rest c.deref_mut.result.now c.len-filled.result) in
    let within : c.len-filled.result + c.in-Ok-read.count ≤ c.resize.new.self.len =
    omega (arith, c.in-Ok-read.ensures.reads.this.bound, room, length-drop c.len-filled.result c.deref_mut.result.now, c.deref_mut.ensures.len, c.turn_end.ensures, c.in-Ok.ensures.len) in (
      _,
      c.in-Ok-read.ensures.reads,
      c.truncate.ensures.items
          ∙ read-placed c.args.bytes.now.items _ _ c.read.new.into _ _ _ c.turn_end.result c.in-Ok-read.count _ (search rules) c.turn_end.ensures (c.deref_mut.ensures.value ∙ c.in-Ok.ensures.items)
          c.in-Ok-read.ensures.reads.this.bound within,
    )
