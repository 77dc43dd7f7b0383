use Rattle.std.proofs.Common.{◌++◌, ◌∙◌, sym, ap, option_map, append-nil}
use Rattle.info_contexts.specs.NamedEntries.{is_asked}
use Rattle.info_contexts.proofs.GenfsEntries.{all_asked, none_asked}
use Rattle.info_contexts.proofs.genfs_entry.push_asked.Goals as goal

pub returns-in_ok-push_entries : goal.returns-in_ok-push_entries
returns-in_ok-push_entries c =
    let name = option_map (λ name. name.now) c.args.name in
    let asked = ap (is_asked name) (sym c.fstype.ensures) ∙ sym c.is_asked.ensures ∙ c.if-is_asked.true in
    c.in_ok-push_entries.ensures ∙ ap (λ entries. c.args.entries.now.items ++ entries) (sym (all_asked name c.args.system.now.value asked))

pub returns-else-is_asked : goal.returns-else-is_asked
returns-else-is_asked c =
    let name = option_map (λ name. name.now) c.args.name in
    let asked = ap (is_asked name) (sym c.fstype.ensures) ∙ sym c.is_asked.ensures ∙ c.if-is_asked.false in
    sym (append-nil c.args.entries.now.items) ∙ ap (λ entries. c.args.entries.now.items ++ entries) (sym (none_asked name c.args.system.now.value asked))
