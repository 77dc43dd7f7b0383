use Rattle.std.proofs.Common.{sym, subst}
use Rattle.std.proofs.lemmas.List.Sorted.{All-permutation}
use Rattle.numbered_rules.specs.Forms.{HasSets, HaveSets}
use Rattle.numbered_rules.proofs.LeftFacts.{same_tested}
use Rattle.numbered_rules.proofs.left.sorted.Goals as goal

pub returns-clause-sets : goal.returns-clause-sets
returns-clause-sets c sets have =
    All-permutation (HasSets sets) c.in_ok-all.all.items c.sort_unstable.new.self.items c.sort_unstable.ensures.permutation (subst (HaveSets sets) (sym c.in_ok-all.ensures.items) have)

pub returns-clause-same : goal.returns-clause-same
returns-clause-same c = same_tested c.args.forms.now c.in_ok-all.all.items c.sort_unstable.new.self.items c.in_ok-all.ensures.items c.sort_unstable.ensures.permutation
