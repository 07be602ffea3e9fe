use Rattle.std.proofs.Common.{◌≡◌, ℕ, nat_lt, sym, ap, ◌∙◌}
use Rattle.std.specs.List.{list_all}
use Rattle.cn_clauses.specs.declared.lit.Lit.{Lit}
use Rattle.cn_clauses.specs.Literals.{variable_of}
use Rattle.cn_clauses.specs.Formulas.{variables_of}
use Rattle.cn_clauses.proofs.SatisfactionLemmas.{below_from_test, test_from_below}
use Rattle.cn_clauses.proofs.formula.Formula.covers.Goals as goal

pub returns : goal.returns
returns c =
    let n = variables_of c.args.self.now in
    let lits = c.args.lits.now in
    let is : c.are_below.result ≡ list_all (λ (lit : Lit). nat_lt (variable_of lit) n) lits =
    c.are_below.ensures
    ∙ ap (λ (k : ℕ). list_all (λ (lit : Lit). nat_lt (variable_of lit) k) lits) c.length-variables.ensures in
    (λ h. below_from_test n lits (sym is ∙ h), λ below. is ∙ test_from_below n lits below)
