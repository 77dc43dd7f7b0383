use Rattle.std.proofs.Common.{Bor, List, ℕ, Vec}
use Rattle.std.specs.Global.{Global}
use Rattle.rule_criteria.specs.Elements.{elements_of}
use Rattle.rule_tests.specs.AskedNumbers.{span_of}
use Rattle.rule_tests.specs.declared.spans.Span.{Span}
use Rattle.rule_tests.proofs.ClassPermissions.{listed_of}
use Rattle.rule_tests.proofs.number_test.spans_of.Goals as goal

pub returns : goal.returns
returns c = listed_of span_of (λ (name : Bor (List ℕ)). name.now) c.in_ok-elements.elements.items c.deref.result.now (elements_of c.args.text.now) (λ (v : Vec Span Global). v.items) c.all_spans.result c.deref.ensures.value c.in_ok-elements.ensures c.all_spans.ensures
