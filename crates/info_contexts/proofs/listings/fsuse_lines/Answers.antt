use Rattle.info_contexts.proofs.listings.fsuse_lines.Goals as goal

pub returns : goal.returns
returns c = rw (c.symbols.ensures, c.contexts.ensures) at c.named.ensures
