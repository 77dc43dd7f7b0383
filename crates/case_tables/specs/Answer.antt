-- When two answers are the same.
use Rattle.std.specs.Prelude.{◌≡◌}
use Rattle.case_tables.specs.declared.answer.Answer.{Answer}

-- they have the same status, and the same was written
abbrev pub Agree : Answer → Answer → Type 0
Agree wanted got =
    (wanted.code ≡ got.code) × (wanted.out.items ≡ got.out.items) × (wanted.err.items ≡ got.err.items)
