use Rattle.std.proofs.Common.{Bool, List, length, false, true, ap, ◌∙◌}
use Rattle.std.proofs.lemmas.List.{length-append}
use Rattle.cn_clauses.specs.declared.formula.Formula.{Formula}
use Rattle.cn_clauses.specs.Literals.{literal}
use Rattle.cn_clauses.proofs.FormulaLemmas.{unit_named, unit_fixed, unit_defines, extends_same, taken_back}
use Rattle.cn_clauses.proofs.ExtensionLemmas.{shows_known, defined}
use Rattle.cn_clauses.proofs.formula.Formula.truth.Goals as goal
use Rattle.cn_clauses.proofs.formula.Formula.truth.Goals.{in-Ok-push, in-Err}

pub returns-in-Some-clause-shows : goal.returns-in-Some-clause-shows
returns-in-Some-clause-shows c = shows_known c.args.self.now c.in-Some.known c.in-Some.is

pub invariant_of-self-in-Ok-push : goal.invariant_of-self-in-Ok-push
invariant_of-self-in-Ok-push c =
    let old = c.args.self.now in
    let lit = c.new-lit.result in
    let next = c.new-lit.ensures ∙ ap (λ (vs : List Bool). literal (length vs) false) c.as_slice-variable.ensures in
    let alone = c.from_vec.ensures ∙ c.in_ok-from_slice.ensures.items in
    let more = ap length c.in-Ok.ensures.ok ∙ length-append old.variables _ in
    record {
      named = unit_named old lit _ next alone (length c.push.new.self) c.push-2.new.self more c.in-Ok-push.ensures.ok;
      fixed = unit_fixed old lit _ next alone (length c.push.new.self) c.push-2.new.self more c.in-Ok-push.ensures.ok;
    }

pub returns-clause-extends : goal.returns-clause-extends
returns-clause-extends c =
    let old = c.args.self.now in
    let new = c.match-push-2.self in
    let lit = c.new-lit.result in
    let next = c.new-lit.ensures ∙ ap (λ (vs : List Bool). literal (length vs) false) c.as_slice-variable.ensures in
    let alone = c.from_vec.ensures ∙ c.in_ok-from_slice.ensures.items in
    elim c.match-push-2.branch [
      | in-Ok-push w ↦
          let grown = ap (λ (f : Formula). length f.variables) w.self-is ∙ ap length c.in-Ok.ensures.ok in
          let more = grown ∙ length-append old.variables _ in
          let pushed = ap (λ (f : Formula). f.clauses) w.self-is ∙ w.in-Ok-push.ensures.ok in
          (defined old new lit (λ a. true) (unit_defines old lit _ next alone new more pushed c.in_default.is)).extends
      | in-Err w ↦
          let popped =
          taken_back old.variables c.push.new.self _ false c.in-Ok.ensures.ok w.forget_last.ensures in
          let variables = ap (λ (f : Formula). f.variables) w.self-is ∙ popped in
          let clauses = ap (λ (f : Formula). f.clauses) w.self-is ∙ w.in-Err.ensures.unchanged in
          extends_same old new variables clauses (ap (λ (f : Formula). f.truth) w.self-is)
    ]
