use Rattle.std.proofs.Common.{◌≡◌, ◌+◌, ℕ, List, [], ◌∷◌, ◌++◌, cond, append-nil, get_or, take, sym, ap, ◌∙◌}
use Rattle.std.specs.List.{filter}
use Rattle.std.proofs.lemmas.Bool.{cond-true, cond-false}
use Rattle.std.proofs.lemmas.List.Elements.{filter_more}
use Rattle.pol_file.specs.declared.Parts.{Parts}
use Rattle.pol_read.specs.StoredRules.{stored}
use Rattle.dom_trans.specs.DefaultRules.{has_default}
use Rattle.dom_trans.proofs.Defaults.{default_of}
use Rattle.dom_trans.proofs.dom_rules.DomRules.with_default.Goals as goal
use Rattle.dom_trans.proofs.dom_rules.DomRules.with_default.Goals.{then-has_default+in_ok-push, else-has_default}

pub loop-number-preserved : goal.loop-number-preserved
loop-number-preserved c =
    let test = has_default c.args.self.now.policy c.args.b in
    let numbers = c.args.numbers.now in
    let i = c.loop-number.number-index in
    let x = get_or numbers i 0 in
    let tested : c.has_default.result ≡ test x = c.has_default.ensures ∙ default_of c.policy.result.now c.args.b x (stored c.rule.result) c.rule.ensures.is ∙ ap (λ (p : Parts). has_default p c.args.b x) c.policy.ensures in
    let more : filter test (take (i + 1) numbers) ≡ filter test (take i numbers) ++ cond (test x) (x ∷ []) [] = filter_more test numbers i 0 c.loop-number-test.true in
    elim c.if-has_default.branch [
      | then-has_default+in_ok-push w ↦
          let passes : cond (test x) (x ∷ []) [] ≡ x ∷ [] = cond-true (test x) (x ∷ []) [] (sym tested ∙ w.if-has_default.true) in
          rw (w.found-is, w.in_ok-push.ensures.items, c.loop-number.invariant) (ap (λ (xs : List ℕ). filter test (take i numbers) ++ xs) (sym passes) ∙ sym more)
      | else-has_default w ↦
          let none : cond (test x) (x ∷ []) [] ≡ [] = cond-false (test x) (x ∷ []) [] (sym tested ∙ w.if-has_default.false) in
          rw w.found-is (c.loop-number.invariant ∙ sym (more ∙ ap (λ (xs : List ℕ). filter test (take i numbers) ++ xs) none ∙ append-nil (filter test (take i numbers))))
    ]
