use Rattle.rule_grants.specs.Grants.{gives}
use Rattle.dom_trans.specs.DefaultRules.{sets_default}
use Rattle.dom_trans.proofs.Keeps.{kept_none}
use Rattle.dom_trans.proofs.keeping.nothing_kept.Goals as goal

pub returns : goal.returns
returns c rules wanted = record {
  transition = kept_none rules (gives wanted.transition) c.new.result c.new.ensures.none (c.new.ensures.ends rules.policy);
  dyntransition = kept_none rules (gives wanted.dyntransition) c.new-2.result c.new-2.ensures.none (c.new-2.ensures.ends rules.policy);
  setexec = kept_none rules (gives wanted.setexec) c.new-3.result c.new-3.ensures.none (c.new-3.ensures.ends rules.policy);
  setcurrent = kept_none rules (gives wanted.setcurrent) c.new-4.result c.new-4.ensures.none (c.new-4.ensures.ends rules.policy);
  execute = kept_none rules (gives wanted.execute) c.new-5.result c.new-5.ensures.none (c.new-5.ensures.ends rules.policy);
  entrypoint = kept_none rules (gives wanted.entrypoint) c.new-6.result c.new-6.ensures.none (c.new-6.ensures.ends rules.policy);
  defaults = kept_none rules (sets_default wanted.process) c.new-7.result c.new-7.ensures.none (c.new-7.ensures.ends rules.policy);
}
