use Rattle.std.proofs.Common.{◌++◌, [], codes}
use Rattle.std.specs.Prelude.{flat_map}
use Rattle.std.proofs.lemmas.Result.{err_from_is_err_and}
use Rattle.se_status.specs.Message.{part_text}
use Rattle.se_status.proofs.Puts.{puts-end, puts-failed, puts-stop, puts-then}
use Rattle.se_status.proofs.message.say.Goals as goal

pub returns-in_err-put : goal.returns-in_err-put
returns-in_err-put g c =
    let p = err_from_is_err_and c.from_residual.result c.from_residual.ensures.1 in
    rw p.1 (puts-failed _ _ _ _ _ _
    (puts-stop _ _ [] _ (codes "setools: ") (flat_map part_text c.args.parts.now ++ codes "\n") _ (rw c.new-line.ensures at c.in_err-put.ensures)))

pub returns-in_err-put_parts : goal.returns-in_err-put_parts
returns-in_err-put_parts g c =
    let p = err_from_is_err_and c.from_residual-in_err-put_parts.result c.from_residual-in_err-put_parts.ensures.1 in
    rw p.1 (puts-failed _ _ _ _ _ _
    (puts-then _ _ _ [] _ _ (codes "setools: ") (flat_map part_text c.args.parts.now ++ codes "\n") _ _ (rw c.new-line.ensures at c.in_ok-put.ensures)
    (puts-stop _ _ _ _ (flat_map part_text c.args.parts.now) (codes "\n") _ c.in_err-put_parts.ensures)))

pub returns-in_err-put-2 : goal.returns-in_err-put-2
returns-in_err-put-2 g c =
    let p = err_from_is_err_and c.from_residual-in_err-put-2.result c.from_residual-in_err-put-2.ensures.1 in
    rw p.1 (puts-failed _ _ _ _ _ _
    (puts-then _ _ _ [] _ _ (codes "setools: ") (flat_map part_text c.args.parts.now ++ codes "\n") _ _ (rw c.new-line.ensures at c.in_ok-put.ensures)
    (puts-then _ _ _ _ _ _ (flat_map part_text c.args.parts.now) (codes "\n") _ _ c.in_ok-put_parts.ensures c.in_err-put-2.ensures)))

pub returns : goal.returns
returns g c =
    puts-end _ _ _ _ (codes "setools: " ++ (flat_map part_text c.args.parts.now ++ codes "\n")) _ _
    (puts-then _ _ _ [] _ _ (codes "setools: ") (flat_map part_text c.args.parts.now ++ codes "\n") _ _ (rw c.new-line.ensures at c.in_ok-put.ensures)
    (puts-then _ _ _ _ _ _ (flat_map part_text c.args.parts.now) (codes "\n") _ _ c.in_ok-put_parts.ensures c.in_ok-put-2.ensures))
    (rw (c.as_bytes.ensures.value, c.as_str.ensures.value) at c.write_all.ensures)
