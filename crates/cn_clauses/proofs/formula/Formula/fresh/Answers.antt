use Rattle.std.proofs.Common.{Bool, List, length, false, refl, ap, ◌∙◌}
use Rattle.std.proofs.lemmas.List.{length-append}
use Rattle.cn_clauses.specs.Literals.{literal}
use Rattle.cn_clauses.specs.Formulas.{clauses_of}
use Rattle.cn_clauses.proofs.SatisfactionLemmas.{below_more}
use Rattle.cn_clauses.proofs.FormulaLemmas.{pushed_le, fixed_more}
use Rattle.cn_clauses.proofs.ExtensionLemmas.{fresh_is}
use Rattle.cn_clauses.proofs.formula.Formula.fresh.Goals as goal

pub invariant_of-self : goal.invariant_of-self
invariant_of-self c =
    let old = c.args.self.now in
    let n = length old.variables in
    let m = length c.push.new.self in
    let le =
    pushed_le c.push.result old.variables c.push.new.self false c.push.ensures.ok c.push.ensures.unchanged in
    record {
      named = below_more n m (clauses_of old) le old.named;
      fixed = fixed_more n m (clauses_of old) old.truth le old.fixed;
    }

pub returns-in-Ok-clause-input : goal.returns-in-Ok-clause-input
returns-in-Ok-clause-input c =
    let old = c.args.self.now in
    let next = c.new.ensures ∙ ap (λ (vs : List Bool). literal (length vs) false) c.as_slice-variable.ensures in
    let more = ap length c.in-Ok.ensures.ok ∙ length-append old.variables _ in
    fresh_is old _ c.new.result next more refl refl
