use Rattle.std.specs.Prelude.{option_map}
use Rattle.rule_query.proofs.PassedRules.{passes_over}
use Rattle.rule_query.proofs.query.Query.asked_vectors.Goals as goal

pub returns : goal.returns
returns c =
    let sources = option_map (λ marks. marks.now) c.marks_of-sources.result in
    let targets = option_map (λ marks. marks.now) c.marks_of-targets.result in
    rw c.new.ensures (passes_over c.args.self.now sources targets c.marks_of-sources.ensures c.marks_of-targets.ensures)
