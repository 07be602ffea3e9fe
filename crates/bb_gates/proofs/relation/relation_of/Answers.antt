use Rattle.std.proofs.Common.{sym, ap, ◌∙◌}
use Rattle.std.proofs.lemmas.Bool.{eqb-false}
use Rattle.cn_clauses.specs.declared.lit.Lit.{Lit}
use Rattle.bb_gates.proofs.FoldingLemmas.{none_folded}
use Rattle.bb_gates.proofs.relation.relation_of.Goals as goal

pub returns-in-None-None : goal.returns-in-None-None
returns-in-None-None c =
    none_folded c.literal_laws.ensures.opposite_twice c.args.formula.now c.args.a c.args.b
    (λ e. eqb-false c.args.a.0 c.args.b.0 (sym c.if-eq.ensures) (ap (λ (l : Lit). l.0) e))
    (λ e. eqb-false c.args.a.0 c.opposed.result.0 (sym c.if-eq-2.ensures)
    (ap (λ (l : Lit). l.0) (e ∙ sym c.opposed.ensures.is)))
    (sym c.constant.ensures.value ∙ c.in-None-None.is-0) (sym c.constant-2.ensures.value ∙ c.in-None-None.is-1)
