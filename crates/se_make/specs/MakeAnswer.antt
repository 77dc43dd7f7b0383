-- The answer of make.
use Rattle.std.specs.Prelude.{ℕ, List, [], ◌++◌, codes, length, flat_map, Result, Ok, Err, if◌then◌else◌}
use Rattle.pol_fields.specs.declared.Fault.{Fault}
use Rattle.pol_file.specs.Acceptance.{accept}
use Rattle.pol_file.specs.declared.Parts.{Parts}
use Rattle.pol_tree.specs.TreeSpelling.{spell}
use Rattle.pol_make.specs.Made.{made}
use Rattle.info_summary.specs.Summary.{summary_lines}
use Rattle.info_summary.specs.SummaryLines.{count_line}
use Rattle.se_info.specs.ListingText.{line_text}
use Rattle.se_status.specs.Conclusion.{Answer, done}
use Rattle.se_options.specs.MakeRequest.{MakeAsks}
use Rattle.se_make.specs.Singles.{singles_of}

-- the line of how many rules between single types there are
abbrev pub singles_line : Parts → List ℕ
singles_line policy = count_line (codes "Singles") (length (singles_of policy))

-- the summary of a policy, and that line
unfoldable pub counts_text : Parts → List ℕ
counts_text policy = flat_map (line_text []) (summary_lines policy) ++ line_text [] (singles_line policy)

-- The summary of a policy that is read. The bytes of a policy that is made are accepted.
abbrev pub read_text : Result Parts Fault → List ℕ
read_text (Ok policy) = counts_text policy
read_text (Err fault) = []

-- the bytes of the policy that is made, or its summary
unfoldable pub make_text : MakeAsks → List ℕ
make_text asks = if asks.bytes then spell (made asks.types) else read_text (accept (spell (made asks.types)))

abbrev pub make_answer : MakeAsks → Answer
make_answer asks = done (make_text asks)
