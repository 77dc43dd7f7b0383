use Rattle.std.proofs.Common.{rules}
use Rattle.std.proofs.lemmas.List.Sorted.{answers_always}
use Rattle.rule_query.specs.Inner.LookedUp.{reads_rule}
use Rattle.rule_query.proofs.TestOrder.{put_are_same}
use Rattle.rule_query.proofs.resolving.put_ends_first.Goals as goal

pub returns : goal.returns
returns c = put_are_same c.args.tests.now.items c.sort_by_key.new.self.items (c.sort_by_key.ensures.stable reads_rule (answers_always _ _ _ (λ f a r g h. search rules)))
