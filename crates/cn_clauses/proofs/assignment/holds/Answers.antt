use Rattle.std.proofs.Common.{◌≡◌, Bool, List, sym, ap, ◌∙◌}
use Rattle.std.specs.List.{list_all}
use Rattle.std.proofs.lemmas.List.Folds.{list_all-map}
use Rattle.cn_clauses.specs.declared.clause.Clause.{Clause}
use Rattle.cn_clauses.specs.Formulas.{clauses_of, value_at}
use Rattle.cn_clauses.specs.Satisfaction.{clause_holds, all_hold}
use Rattle.cn_clauses.proofs.assignment.holds.Goals as goal

pub returns : goal.returns
returns c =
    let formula = c.args.formula.now in
    let values = c.args.a.now.values in
    let test = λ (vs : List Bool) (clause : Clause). clause_holds (value_at vs) clause.lits in
    let is : c.all_are_true.result ≡ all_hold (value_at values) (clauses_of formula) =
    c.all_are_true.ensures
    ∙ ap (λ (vs : List Bool). list_all (test vs) c.as_slice-2.result.now) c.as_slice.ensures
    ∙ ap (λ (cs : List Clause). list_all (test values) cs) c.as_slice-2.ensures
    ∙ sym (list_all-map (clause_holds (value_at values)) (λ (clause : Clause). clause.lits) formula.clauses) in
    (λ h. sym is ∙ h, λ h. is ∙ h)
