use Rattle.std.proofs.Common.{◌≡◌, ◌∙◌, []}
use Rattle.std.proofs.lemmas.Result.{err_from_is_err_and}
use Rattle.se_info.specs.ListingText.{line_text}
use Rattle.se_make.specs.MakeAnswer.{counts_text, singles_line}
use Rattle.se_make.proofs.Written.{sent_cut}
use Rattle.se_make.proofs.making.write_counts.Goals as goal

pub returns-in_err-write_all : goal.returns-in_err-write_all
unfolding counts_text
returns-in_err-write_all g c =
    let p = err_from_is_err_and c.from_residual-in_err-write_all.result c.from_residual-in_err-write_all.ensures.1 in
    let last : c.deref.result.now ≡ line_text [] (singles_line c.args.policy.now) = c.deref.ensures.value ∙ c.in_ok-singles.ensures in
    rw (p.1, p.2, ← last) (sent_cut _ _ _ _ _ _ _ c.in_ok-write_summary.ensures c.in_err-write_all.ensures)
