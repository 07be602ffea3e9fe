use Rattle.std.proofs.Common.{sym, subst}
use Rattle.cn_clauses.specs.declared.lit.Lit.{Lit}
use Rattle.cn_clauses.specs.Literals.{opposite_of}
use Rattle.bb_gates.specs.Growth.{AreFolded}
use Rattle.bb_gates.proofs.FoldingLemmas.{opposites_folded}
use Rattle.bb_gates.proofs.pairs.or.Goals as goal

pub returns-in_err-and-clause-folds : goal.returns-in_err-and-clause-folds
returns-in_err-and-clause-folds c folded =
    let formula = c.args.formula.now in
    c.and.ensures.folds
    (subst (λ (x : Lit). AreFolded formula x c.opposed-2.result) (sym c.opposed.ensures.is)
    (subst (λ (x : Lit). AreFolded formula (opposite_of c.args.a) x) (sym c.opposed-2.ensures.is)
    (opposites_folded c.literal_laws.ensures.opposite_twice formula c.args.a c.args.b folded)))

pub returns-clause-folds : goal.returns-clause-folds
returns-clause-folds c folded =
    let formula = c.args.formula.now in
    c.and.ensures.folds
    (subst (λ (x : Lit). AreFolded formula x c.opposed-2.result) (sym c.opposed.ensures.is)
    (subst (λ (x : Lit). AreFolded formula (opposite_of c.args.a) x) (sym c.opposed-2.ensures.is)
    (opposites_folded c.literal_laws.ensures.opposite_twice formula c.args.a c.args.b folded)))
